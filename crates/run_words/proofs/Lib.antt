pub mod Rows
pub mod Found
pub mod Built
pub mod Steps
pub mod Options
pub mod Gathered
pub mod Whole
