pub mod Replaying
pub mod Opening
pub mod Parts
