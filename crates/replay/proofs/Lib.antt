pub mod Checks
pub mod Rows
pub mod Own
pub mod Turns
