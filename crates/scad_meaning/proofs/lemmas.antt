-- Lemmas that this crate shares with those above it, which may import no others of its proofs.
pub mod Choosing
pub mod HeldPlaces
pub mod InstancePlaces
pub mod Judges
pub mod ProgramPlaces
pub mod SoundShapes
pub mod Verdicts
