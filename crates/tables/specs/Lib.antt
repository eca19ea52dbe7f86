pub mod Tables
pub mod Regions
