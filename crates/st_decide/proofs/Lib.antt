pub mod SameRule
pub mod Asked
mod Enabling
pub mod FewCalls
mod Fits
pub mod HeldCalls
pub mod NextSteps
pub mod Questions
pub mod Reached
mod Running
pub mod Started
pub mod Versions
