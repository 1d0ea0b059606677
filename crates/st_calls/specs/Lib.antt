pub mod Argument
pub mod Call
pub mod Emulation
pub mod Rules
