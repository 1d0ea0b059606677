pub mod Instructions
pub mod CallArgs
