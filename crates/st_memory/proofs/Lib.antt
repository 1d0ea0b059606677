mod Bytes
mod Counts
mod Filled
mod Numbers
mod Parts
mod Rows
mod Steps
mod Writes
