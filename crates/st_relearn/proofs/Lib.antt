mod Bytes
mod Examples
mod Keeping
mod LearntFilters
mod Lines
mod Names
mod Outcomes
mod Parts
mod Quoting
mod Replies
mod Runs
mod Scripts
mod Sessions
mod Texts
mod Trees
pub mod Writing
