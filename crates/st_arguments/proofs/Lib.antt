pub mod FirstMet
pub mod Fronts
pub mod InOrder
pub mod Spelled
pub mod WayDown
