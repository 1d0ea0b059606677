mod NumbersDrawn
mod RunsSoFar
mod Answering
mod Cursors
mod Holders
mod LiveNumbers
pub mod Plays
mod Rests
mod Room
mod Settled
mod Working
mod WokenBy
