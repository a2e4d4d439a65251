-- Points inside a solid and limits of them, in grid steps.
use Rattle.std.specs.Prelude.{◌≡◌, ◌≢◌, true, pos, ◌<ℤ◌, List}
use Rattle.plane_predicate.specs.Space.{Coefficients, Coordinates, value}
use Rattle.bsp_tree.specs.Cells.{IsInCell}
use Rattle.csg_tree.specs.HalfSpaceTrees.{Tree, holds, sides_of, IsPlaneOf}

-- the point is inside the tree's solid: the tree holds there, and no face plane goes through it
pub record IsInsideSolid (f : Tree) (p : Coordinates) : Type 0 where
  pub weight : pos 0 <ℤ p.w
  pub off : (m : Coefficients) → IsPlaneOf m f → value m p ≢ pos 0
  pub solid : holds f (sides_of p) ≡ true

-- the point is a limit of points inside the solid: whichever planes have it strictly behind all of them, they have such a point
-- behind all of them too
abbrev pub IsLimitOfInside : Tree → Coordinates → Type 0
IsLimitOfInside f v = (planes : List Coefficients) → IsInCell planes v → (p : Coordinates) × IsInCell planes p × IsInsideSolid f p
