pub mod Reads
pub mod Words
pub mod Fields
