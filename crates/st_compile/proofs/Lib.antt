mod Answering
mod Arguments
pub mod Asking
mod Holding
pub mod Indices
mod Keyed
pub mod Lists
mod Passes
pub mod Rows
mod Tables
