-- Lemmas that this crate shares with those above it, which may import no others of its proofs.
pub mod Depths
pub mod Given
pub mod Lengths
pub mod Loops
pub mod Stops
pub mod Trees
