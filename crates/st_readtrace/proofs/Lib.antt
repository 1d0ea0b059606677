pub mod ChangeLoops
pub mod Changing
pub mod Parts
pub mod Entering
pub mod Closings
pub mod OneLine
pub mod Reading
pub mod FittingChanges
pub mod FittingEntries
pub mod NextLine
mod WorkedRows
