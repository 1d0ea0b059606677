pub mod Memory
pub mod Page
pub mod Pages
