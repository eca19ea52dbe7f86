pub mod Unique
pub mod Short
pub mod Small
pub mod Numbers
