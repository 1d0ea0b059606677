pub mod Changed
pub mod Executed
pub mod Fits
pub mod Opens
