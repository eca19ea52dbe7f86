pub mod Entries
pub mod Regions
pub mod Reading
pub mod Finding
pub mod Marks
pub mod Growing
pub mod Holding
pub mod Adding
