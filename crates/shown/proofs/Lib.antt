pub mod Four
pub mod Ids
pub mod Tabled
pub mod Objects
pub mod Acts
pub mod Going
