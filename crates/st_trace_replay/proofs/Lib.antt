pub mod Breaking
mod Decided
mod Lines
mod Moving
pub mod Outcomes
mod Printed
