pub mod Number
pub mod Generated
pub mod Outcome
pub mod Ends
pub mod Learning
pub mod RunEnds
