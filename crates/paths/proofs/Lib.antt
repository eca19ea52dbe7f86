pub mod Bools
pub mod Paths
pub mod Rests
