pub mod Entries
pub mod Paths
pub mod Substrings
pub mod Counts
pub mod LastRow
