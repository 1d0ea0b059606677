mod ErrorNumbers
mod FlagBits
pub mod Kept
mod NativeStarts
mod Rows
