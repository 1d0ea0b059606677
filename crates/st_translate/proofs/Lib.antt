pub mod Asked
pub mod Callers
pub mod Letters
pub mod Rooms
pub mod Stages
pub mod Texts
pub mod Vectors
