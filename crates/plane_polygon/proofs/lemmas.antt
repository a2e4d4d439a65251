-- Lemmas that this crate shares with those above it, which may import no others of its proofs.
pub mod FourPoints
pub mod Hull
pub mod Rounds
pub mod Cuts
pub mod PartLists
pub mod PartPolygons
pub mod PartPoints
pub mod PartCovers
pub mod Faces
pub mod CornerSides
pub mod ParallelPlanes
pub mod Parts
pub mod BoxStarts
pub mod BoxPoints
