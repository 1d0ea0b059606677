pub mod Regrouped
pub mod Fronts
pub mod Spellings
pub mod Quoting
pub mod Names
pub mod Arguments
pub mod Loops
pub mod Fits
