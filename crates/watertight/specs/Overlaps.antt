-- Printed faces in one plane that share no inner point. Vertices and points are in units, and planes in grid steps.
use Rattle.std.specs.Prelude.{◌≡◌, ℕ, ◌<◌, pos, ◌<ℤ◌, List, [], length, slice_index_or}
use Rattle.plane_predicate.specs.declared.unit.Unit.{Unit as LengthUnit}
use Rattle.plane_predicate.specs.Space.{Coefficients, Coordinates, opposite_of, IsPlane}
use Rattle.off_text.specs.Boundaries.{FaceCovers}

-- of two different faces in one plane, which face the same side or opposite sides, no point is strictly inside both
pub record ShareNoInnerPointInAPlane (unit : LengthUnit) (vertices : List Coordinates) (faces : List (List ℕ)) : Type 0 where
  pub same : (n : Coefficients) (p : Coordinates) → IsPlane n → pos 0 <ℤ p.w → (i j : ℕ) → i < length faces → j < length faces →
      FaceCovers unit vertices n p (slice_index_or faces i []) → FaceCovers unit vertices n p (slice_index_or faces j []) → i ≡ j
  pub opposite : (n : Coefficients) (p : Coordinates) → IsPlane n → pos 0 <ℤ p.w → (i j : ℕ) → i < length faces → j < length faces →
      FaceCovers unit vertices n p (slice_index_or faces i []) → FaceCovers unit vertices (opposite_of n) p (slice_index_or faces j []) → ⊥
