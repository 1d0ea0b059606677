pub mod Head
pub mod Need
pub mod Part
pub mod Slot
pub mod Slots
