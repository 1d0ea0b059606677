pub mod Fetched
pub mod Inputs
pub mod Leads
pub mod Meanings
pub mod ReadFiles
pub mod Refusals
pub mod Runnable
pub mod RunMeanings
mod Unasked
