mod Begun
mod Choices
mod Running
