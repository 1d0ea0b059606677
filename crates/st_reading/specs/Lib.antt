pub mod Bare
pub mod Meaning
pub mod Files
pub mod Ends
pub mod Kinds
pub mod Runnable
pub mod RunMeaning
