pub mod Digits
pub mod Steps
pub mod Places
pub mod Lines
pub mod Ends
pub mod Loads
