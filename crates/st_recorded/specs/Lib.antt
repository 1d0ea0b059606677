pub mod Names
pub mod Recorded
pub mod Tickets
