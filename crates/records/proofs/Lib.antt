pub mod Bytes
pub mod Putting
