pub mod Everywhere
pub mod Pieces
pub mod Overlaps
pub mod WatertightFaces
