pub mod Outcome
pub mod Processes
pub mod Ready
