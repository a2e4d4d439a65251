pub mod Reading
pub mod Boundaries
pub mod Vertices
pub mod Texts
pub mod Numbering
pub mod FaceNumbers
pub mod Prints
pub mod Bounding
