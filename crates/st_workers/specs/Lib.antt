pub mod Filling
pub mod Refinement
pub mod Laws
pub mod Leaving
pub mod Numbers
pub mod Tasks
pub mod UnderWay
