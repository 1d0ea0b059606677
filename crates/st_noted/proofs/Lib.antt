pub mod Draws
mod Idle
mod Recording
mod Working
