-- The face planes of a tree, and what it is just behind and just ahead of a point that lies on one of them.
use Rattle.std.specs.Prelude.{◌≡◌, Bool, true, false, not, ◌&&◌, if◌then◌else◌, ◌⊎◌, pos}
use Rattle.plane_predicate.specs.Space.{Coefficients, Coordinates, value, opposite_of, is_same, IsInWorld}
use Rattle.csg_tree.specs.HalfSpaceTrees.{Tree, SideAssignment, holds, sides_of, IsPlaneOf}

-- a face plane, in one of its two orientations
abbrev pub IsFacePlane : Coefficients → Tree → Type 0
IsFacePlane n f = IsPlaneOf n f ⊎ IsPlaneOf (opposite_of n) f

-- the point is strictly inside the world box and on exactly one face plane, of which n is an orientation. Two face planes are
-- one set of points where they are equal or opposite
pub record IsOnOneFacePlane (f : Tree) (n : Coefficients) (p : Coordinates) : Type 0 where
  pub world : IsInWorld p
  pub face_plane : IsFacePlane n f
  pub on : value n p ≡ pos 0
  pub alone : (m : Coefficients) → IsPlaneOf m f → value m p ≡ pos 0 → (m ≡ n) ⊎ (m ≡ opposite_of n)

-- the sides of a point on the plane n that is moved a little to behind n: every other plane keeps its side
abbrev pub sides_just_behind : Coefficients → Coordinates → SideAssignment
sides_just_behind n p m = if is_same m n then true else if is_same m (opposite_of n) then false else sides_of p m

-- the same for the point moved a little to ahead of n
abbrev pub sides_just_ahead : Coefficients → Coordinates → SideAssignment
sides_just_ahead n p m = if is_same m n then false else if is_same m (opposite_of n) then true else sides_of p m

-- solid just behind the point, seen from n, and empty just ahead of it
abbrev pub is_boundary_at : Tree → Coefficients → Coordinates → Bool
is_boundary_at f n p = holds f (sides_just_behind n p) && not (holds f (sides_just_ahead n p))
