pub mod Bytes
pub mod Copied
pub mod Stage
pub mod Taken
