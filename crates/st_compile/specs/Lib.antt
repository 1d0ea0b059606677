pub mod Answers
pub mod Arguments
pub mod Asked
pub mod Compiling
pub mod Holding
pub mod Passing
pub mod Places
pub mod Table
