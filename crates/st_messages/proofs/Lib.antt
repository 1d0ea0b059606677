mod Ahead
mod CircleSearch
pub mod Counts
mod Elements
pub mod Lookups
mod MessageRows
pub mod Ordered
mod OwnValues
mod Runs
pub mod Seqs
mod TakenOnce
mod Takings
mod TicketSteps
pub mod Whole
