pub mod Lookup
pub mod Best
pub mod Index
