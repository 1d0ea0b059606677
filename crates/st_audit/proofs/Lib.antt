pub mod Answered
pub mod Counting
pub mod Deciding
pub mod Following
pub mod Growth
pub mod LastAnswer
pub mod LastDrawing
mod NumberedRows
pub mod Printing
mod ReloadRows
pub mod Rows
mod Summarized
pub mod Unnumbered
mod WorkedRows
