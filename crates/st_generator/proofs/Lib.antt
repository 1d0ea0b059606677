pub mod Lengths
pub mod Pieces
mod WorkedRows
