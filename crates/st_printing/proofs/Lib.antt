mod Appends
mod Canons
mod Indices
