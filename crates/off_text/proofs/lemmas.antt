-- Lemmas that this crate shares with those above it, which may import no others of its proofs.
pub mod Scaled
pub mod Rounded
pub mod Unique
pub mod BesideFaces
pub mod Bounds
pub mod Factors
