pub mod Refused
pub mod Types
pub mod Frames
pub mod Load
pub mod Sound
