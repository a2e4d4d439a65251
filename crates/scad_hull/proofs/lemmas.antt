-- Lemmas that this crate shares with those above it, which may import no others of its proofs.
pub mod Alternative
pub mod Turns
pub mod Lines
pub mod Inner
pub mod Members
pub mod Loops
