pub mod Faults
pub mod FirstFault
