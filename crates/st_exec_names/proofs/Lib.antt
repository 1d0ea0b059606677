pub mod Allowed
pub mod Looked
pub mod Renamed
