pub mod Enabled
pub mod Entering
pub mod Holding
pub mod Machine
pub mod Making
pub mod NextSteps
pub mod Questions
pub mod Step
