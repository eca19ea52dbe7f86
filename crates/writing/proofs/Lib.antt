pub mod Promises
pub mod Header
