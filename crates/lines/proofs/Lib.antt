pub mod Lines
pub mod Rooms
pub mod Decoding
pub mod Encoding
pub mod Values
