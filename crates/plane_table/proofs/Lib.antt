pub mod Numbers
pub mod lemmas
pub mod Cuts
pub mod Small
mod Lines
pub mod Oriented
pub mod Joins
mod Rows
