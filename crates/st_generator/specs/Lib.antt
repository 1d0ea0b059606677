pub mod Policy
pub mod Script
