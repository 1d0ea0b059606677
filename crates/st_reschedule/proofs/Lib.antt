mod Printed
mod Reading
mod ReadAgain
mod SmallNumbers
