pub mod Rows
pub mod Read
pub mod Least
pub mod Candidates
pub mod Reaches
