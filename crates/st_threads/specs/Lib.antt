pub mod Ending
pub mod Renewing
pub mod Thread
pub mod Ways
