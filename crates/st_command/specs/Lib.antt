pub mod Words
pub mod Given
pub mod Command
pub mod Grammar
pub mod Reading
