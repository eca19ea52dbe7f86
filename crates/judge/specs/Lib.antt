pub mod Judge
pub mod Noted
