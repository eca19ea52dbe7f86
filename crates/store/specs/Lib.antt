pub mod Kind
pub mod Layout
pub mod Held
pub mod Grow
