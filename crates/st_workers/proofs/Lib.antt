mod Answered
mod Begun
mod Cancels
pub mod Carried
mod Changed
mod Claims
pub mod Closing
pub mod Copies
mod Counts
pub mod Ended
mod Few
pub mod Fewer
mod Filled
pub mod InUse
mod Lookups
pub mod Numbered
mod Posts
mod Renewals
mod Same
mod Sealed
mod Seqs
mod Served
pub mod States
mod Steps
mod Taken
mod Tasks
pub mod Threads
pub mod Turns
