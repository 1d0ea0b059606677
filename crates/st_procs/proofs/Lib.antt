mod Counts
mod Kept
mod Live
mod Lookups
mod Numbered
