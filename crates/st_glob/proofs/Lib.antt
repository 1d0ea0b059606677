pub mod Classes
pub mod Fronts
pub mod Runs
pub mod Steps
mod Rows
