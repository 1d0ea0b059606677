pub mod Environment
pub mod Names
