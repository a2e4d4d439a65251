mod Rows
pub mod Lengths
