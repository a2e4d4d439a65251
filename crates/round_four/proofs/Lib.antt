pub mod Near
pub mod lemmas
pub mod Corners
pub mod Sides
pub mod EndFaces
pub mod Behind
