-- Lemmas that this crate shares with those above it, which may import no others of its proofs.
pub mod Radii
pub mod Circles
pub mod TwoCircles
pub mod ToApex
pub mod FromApex
pub mod Cylinders
