pub mod Changes
pub mod Execution
pub mod Signals
pub mod Sockets
