pub mod Walk
pub mod Needed
pub mod Row
pub mod Image
pub mod Found
