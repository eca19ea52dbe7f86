pub mod Search
pub mod Greatest
pub mod Picked
pub mod Matches
pub mod Found
pub mod Listed
pub mod Indexing
pub mod Taking
