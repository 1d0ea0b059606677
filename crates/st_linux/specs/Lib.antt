pub mod Flags
pub mod Errors
pub mod Native
pub mod Laws
