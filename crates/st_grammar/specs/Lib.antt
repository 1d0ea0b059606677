pub mod Diagram
pub mod Expression
pub mod Grammar
pub mod OneFilter
pub mod Reading
pub mod Symbol
pub mod Words
