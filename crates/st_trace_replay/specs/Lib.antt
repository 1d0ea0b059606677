pub mod Movers
pub mod Replayed
pub mod Steps
