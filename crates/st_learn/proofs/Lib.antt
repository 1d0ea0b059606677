mod Asking
pub mod Binaries
mod Counting
mod Deciding
pub mod Filters
mod First
mod FirstDeciding
pub mod InForce
mod Numbers
pub mod OperatorPlaces
mod PassedOver
mod Permitting
pub mod Replies
mod Rooms
pub mod Unasked
