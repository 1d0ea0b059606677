pub mod Endings
pub mod Examples
pub mod Looks
pub mod Objects
pub mod Ordered
pub mod Spelled
pub mod Walks
pub mod Words
