mod Following
pub mod Lawful
mod Moves
mod Numbered
mod Replaying
