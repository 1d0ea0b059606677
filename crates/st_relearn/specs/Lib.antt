pub mod Plain
pub mod Relearnt
pub mod Scripts
pub mod Writable
