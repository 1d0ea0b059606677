pub mod Written
pub mod Normal
