pub mod Grants
pub mod Reached
pub mod Runnable
pub mod Reloading
pub mod Scripts
pub mod Waiting
