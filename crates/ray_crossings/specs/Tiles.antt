-- Two trees that hold alike inside a cell, and texts whose faces cover a point alike. Points are in units, and planes in grid
-- steps.
use Rattle.std.specs.Prelude.{◌≡◌, ◌≢◌, ◌⊎◌, ℕ, Bool, List, pos}
use Rattle.plane_predicate.specs.declared.unit.Unit.{Unit as LengthUnit}
use Rattle.plane_predicate.specs.Space.{Coefficients, Coordinates, value}
use Rattle.csg_tree.specs.HalfSpaceTrees.{Tree, holds, sides_of, IsPlaneOf}
use Rattle.bsp_tree.specs.Cells.{IsInCell}
use Rattle.off_text.specs.Boundaries.{FaceCovers, OneExactlyWhere}

-- two trees hold alike at each point of a cell that is on no face plane of either. A box is the cell of six planes
abbrev pub HoldAlikeInside : List Coefficients → Tree → Tree → Type 0
HoldAlikeInside cell f g =
    (p : Coordinates) → IsInCell cell p → ((m : Coefficients) → IsPlaneOf m f ⊎ IsPlaneOf m g → value m p ≢ pos 0) → holds f (sides_of p) ≡ holds g (sides_of p)

-- seen from n, either exactly one face of each text covers the point, or no face of either does
pub record CoverAlike (unit : LengthUnit) (vertices others : List Coordinates) (faces more : List (List ℕ)) (n : Coefficients) (p : Coordinates) : Type 0 where
  pub is_covered : Bool
  pub here : OneExactlyWhere is_covered (FaceCovers unit vertices n p) faces
  pub there : OneExactlyWhere is_covered (FaceCovers unit others n p) more
