pub mod Execution
pub mod Walking
