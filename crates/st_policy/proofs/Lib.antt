pub mod Cited
pub mod Tokens
