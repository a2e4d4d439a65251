mod Moving
mod Together
mod Rows
