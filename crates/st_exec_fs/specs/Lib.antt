pub mod Execution
pub mod Open
