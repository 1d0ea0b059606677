pub mod Binding
pub mod Executed
pub mod Left
mod Ordered
pub mod Ports
