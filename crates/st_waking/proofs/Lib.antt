mod Awake
pub mod LawWakes
pub mod Unwoken
