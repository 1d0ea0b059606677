pub mod Circle
pub mod Laws
pub mod Messages
pub mod Tickets
