pub mod Circles
pub mod Cylinders
