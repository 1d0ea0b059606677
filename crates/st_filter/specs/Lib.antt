pub mod Fast
pub mod Formula
pub mod FormulaCode
pub mod Judged
pub mod Judging
pub mod PolicyEntries
pub mod Policies
