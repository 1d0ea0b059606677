pub mod Duplicates
pub mod Fits
