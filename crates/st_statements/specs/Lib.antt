pub mod Accounts
pub mod Instructions
pub mod Lines
pub mod Objects
pub mod Parts
pub mod Statements
pub mod Tasks
pub mod Values
