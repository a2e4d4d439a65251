pub mod Parsing
pub mod Sources
