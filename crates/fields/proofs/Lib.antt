pub mod Bytes
pub mod Rows
pub mod Header
pub mod Roles
pub mod Paths
pub mod Entries
pub mod Again
