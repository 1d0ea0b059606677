pub mod Answers
pub mod Nodes
pub mod Objects
pub mod Paths
pub mod Reached
pub mod Refusals
