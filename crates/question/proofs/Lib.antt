pub mod Reading
pub mod Printing
pub mod Checking
pub mod Unique
pub mod Enough
