pub mod Number
pub mod Candidates
