pub mod Posted
