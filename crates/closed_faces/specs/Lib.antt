pub mod Sums
pub mod Crossings
pub mod Worked
