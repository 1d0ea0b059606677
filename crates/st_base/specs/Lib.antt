pub mod Errno
pub mod Ids
pub mod Number
pub mod Numbered
