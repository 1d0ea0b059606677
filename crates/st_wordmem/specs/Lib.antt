pub mod Memory
pub mod Rule
