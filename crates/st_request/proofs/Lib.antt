pub mod Outcomes
pub mod Real
pub mod Refused
pub mod Stay
