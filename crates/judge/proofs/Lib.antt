pub mod Rows
pub mod Places
pub mod Found
pub mod Noting
