pub mod Crossings
pub mod Positions
pub mod Limits
pub mod Worked
pub mod Tiles
