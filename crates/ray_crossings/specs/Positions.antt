-- Ways in general position to the face planes of a tree. Points are in units, and planes in grid steps.
use Rattle.std.specs.Prelude.{◌≡◌, ◌≢◌, ◌⊎◌, ℤ, pos, ◌+ℤ◌, ◌*ℤ◌, ◌<ℤ◌}
use Rattle.plane_predicate.specs.declared.unit.Unit.{Unit as LengthUnit}
use Rattle.plane_predicate.specs.Space.{Coefficients, Coordinates, value, opposite_of, IsInWorld}
use Rattle.plane_predicate.specs.InUnits.{in_steps}
use Rattle.csg_tree.specs.HalfSpaceTrees.{Tree, IsPlaneOf}

-- the point of the way from a to b whose four numbers are s times those of a and t times those of b together
abbrev pub point_between : ℤ → Coordinates → ℤ → Coordinates → Coordinates
point_between s a t b = record { x = s *ℤ a.x +ℤ t *ℤ b.x; y = s *ℤ a.y +ℤ t *ℤ b.y; z = s *ℤ a.z +ℤ t *ℤ b.z; w = s *ℤ a.w +ℤ t *ℤ b.w }

-- the point is strictly inside the world box and on no face plane
pub record IsOffFacePlanes (unit : LengthUnit) (f : Tree) (p : Coordinates) : Type 0 where
  pub world : IsInWorld (in_steps unit p)
  pub off : (m : Coefficients) → IsPlaneOf m f → value m (in_steps unit p) ≢ pos 0

-- the way from a to b is in general position: both ends are strictly inside the world box and off all face planes, and each
-- point between them is on at most one face plane
pub record IsInGeneralPosition (unit : LengthUnit) (f : Tree) (a b : Coordinates) : Type 0 where
  pub start : IsOffFacePlanes unit f a
  pub end : IsOffFacePlanes unit f b
  pub one_plane : (s t : ℤ) → pos 0 <ℤ s → pos 0 <ℤ t → (m n : Coefficients) → IsPlaneOf m f → IsPlaneOf n f →
      value m (in_steps unit (point_between s a t b)) ≡ pos 0 → value n (in_steps unit (point_between s a t b)) ≡ pos 0 →
      (m ≡ n) ⊎ (m ≡ opposite_of n)
