-- Lemmas that this crate shares with those above it, which may import no others of its proofs.
pub mod Counts
pub mod Expressions
pub mod FirstFaults
pub mod Programs
pub mod Readers
pub mod Shrinks
pub mod Statements
pub mod Wider
