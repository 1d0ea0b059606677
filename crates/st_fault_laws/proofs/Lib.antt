pub mod Below
pub mod Completions
pub mod Cuts
mod Examples
pub mod FaultKinds
pub mod FaultsOnce
pub mod FilterFaults
pub mod FilterFaultsOnce
pub mod FilterReadings
pub mod FirstFaults
pub mod LabelPlaces
pub mod LabelsRead
pub mod MayStand
pub mod MovedFaults
pub mod PlacesReported
pub mod SpecialFaults
pub mod WaysOn
