-- Planes with the same numbers, for the crates above.
pub use Rattle.plane_table.proofs.lemmas.Planes.{same_equal, not_same}
