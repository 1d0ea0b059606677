pub mod Numbers
pub mod Options
pub mod Commands
pub mod Limits
mod WordRows
