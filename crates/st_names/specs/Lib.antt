pub mod Name
pub mod Seen
