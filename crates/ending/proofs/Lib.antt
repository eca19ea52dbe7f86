pub mod Roots
pub mod Stored
pub mod Marks
