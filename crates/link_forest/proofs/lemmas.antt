-- Lemmas that this crate shares with those above it, which may import no others of its proofs.
pub mod Numbers
pub mod Longer
pub mod Reaching
