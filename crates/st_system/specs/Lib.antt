pub mod Fit
pub mod Start
pub mod Steps
pub mod System
