pub mod Kernel
pub mod Runners
