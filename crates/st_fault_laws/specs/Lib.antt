pub mod Cuts
pub mod FilterFault
pub mod FirstFault
