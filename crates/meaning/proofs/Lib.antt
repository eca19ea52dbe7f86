pub mod Steps
pub mod Back
pub mod Rows
pub mod Recipes
pub mod Telling
pub mod Printing
pub mod Facts
pub mod Headline
