pub mod Joined
pub mod PlayedAgain
pub mod Repeats
mod WorkedRows
