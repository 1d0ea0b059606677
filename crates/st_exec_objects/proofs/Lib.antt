pub mod Executing
pub mod Objects
pub mod Resolutions
pub mod Walks
