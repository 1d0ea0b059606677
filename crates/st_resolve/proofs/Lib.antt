pub mod Firsts
pub mod Joined
pub mod Texts
pub mod Walks
