pub mod Bounds
pub mod Reading
pub mod Startable
