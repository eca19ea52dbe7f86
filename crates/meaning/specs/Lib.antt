pub mod Means
pub mod Read
