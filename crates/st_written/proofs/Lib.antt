pub mod LawfulEntries
pub mod NormalChanges
pub mod NormalStates
pub mod NormalWalks
pub mod Parted
