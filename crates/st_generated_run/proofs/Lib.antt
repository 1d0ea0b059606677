pub mod Meant
pub mod Rested
