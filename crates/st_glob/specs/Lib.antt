pub mod Fills
pub mod Glob
pub mod Items
pub mod Taken
