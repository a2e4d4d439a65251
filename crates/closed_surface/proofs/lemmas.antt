-- Lemmas that this crate shares with those above it, which may import no others of its proofs.
pub mod Numbers
pub mod Each
pub mod Parallels
pub mod EdgeLines
pub mod Printing
pub mod Counting
pub mod Near
pub mod Lines
pub mod Balanced
pub mod Closing
