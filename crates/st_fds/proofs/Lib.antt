mod Entries
mod Shared
mod Undone
mod Whole
