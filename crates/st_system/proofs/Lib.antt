mod Alike
mod Asking
mod Begun
mod After
mod Ends
mod Executing
mod Failures
mod Families
mod First
pub mod Fit
mod Kept
mod Links
mod Living
mod Memory
mod OnFiles
mod OnProcesses
mod Plain
pub mod Reloading
mod Renewing
mod Same
mod Short
mod Started
mod Whole
