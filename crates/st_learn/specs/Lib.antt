pub mod Answers
pub mod Deciding
pub mod Kept
pub mod Learnt
pub mod Operator
pub mod Permitted
pub mod SessionIn
pub mod Sessions
