-- Lemmas that this crate shares with those above it, which may import no others of its proofs.
pub mod IntegerRing
pub mod Polynomials
pub mod PolynomialSigns
pub mod Signs
pub mod Vectors
pub mod Identities
pub mod Sizes
pub mod Opposites
pub mod Divisions
pub mod ThroughPoints
pub mod Coprime
pub mod SamePlanes
pub mod InUnits
