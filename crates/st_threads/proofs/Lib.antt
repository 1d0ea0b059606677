pub mod HeldEnds
mod Planned
pub mod Renewed
pub mod RenewedLaw
pub mod Rows
