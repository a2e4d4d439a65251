pub mod lemmas
pub mod Rotations
pub mod ByCorners
pub mod Trims
mod Rows
