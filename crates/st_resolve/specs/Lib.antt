pub mod Cursor
pub mod Remaining
pub mod Walk
