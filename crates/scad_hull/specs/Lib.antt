pub mod Combinations
pub mod Hulls
pub mod Steps
pub mod Refusals
