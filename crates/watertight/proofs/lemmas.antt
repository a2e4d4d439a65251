-- Lemmas that this crate shares with those above it, which may import no others of its proofs.
pub mod Boxed
pub mod Inner
pub mod Nearby
pub mod Overlaps
pub mod Reach
pub mod Vertices
