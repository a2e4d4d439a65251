-- One cube.
pub mod Worked
