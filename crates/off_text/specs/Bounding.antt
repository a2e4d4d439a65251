-- When a 4OFF text is the boundary of a tree. The text and the points are in units, and the tree's planes in grid steps.
use Rattle.std.specs.Prelude.{ℕ, ◌<◌, List, length, All}
use Rattle.plane_predicate.specs.declared.unit.Unit.{Unit as LengthUnit}
use Rattle.plane_predicate.specs.Space.{Coefficients, Coordinates, IsInClosedWorld}
use Rattle.plane_predicate.specs.InUnits.{in_steps}
use Rattle.csg_tree.specs.HalfSpaceTrees.{Tree}
use Rattle.csg_tree.specs.FacePlanes.{IsFacePlane, IsOnOneFacePlane, is_boundary_at}
use Rattle.closed_surface.specs.Closed.{IsClosedSurface}
use Rattle.off_text.specs.Reading.{IsOffText}
use Rattle.off_text.specs.Boundaries.{grid_corner, FacesPlane, FaceCovers, OneExactlyWhere}
use Rattle.off_text.specs.Vertices.{AreVerticesOf}

-- a face of the boundary: it faces an orientation of a face plane, and its corners are in the closed world box
pub record IsBoundaryFace (unit : LengthUnit) (f : Tree) (vertices : List Coordinates) (face : List ℕ) : Type 0 where
  pub plane : Coefficients
  pub of_formula : IsFacePlane plane f
  pub faces : FacesPlane unit vertices plane face
  pub boxed : (i : ℕ) → i < length face → IsInClosedWorld (grid_corner unit vertices face i)

-- the bytes are a 4OFF text whose faces are closed and bound the tree: at a point on one face plane alone, exactly one face
-- covers a side that is solid just behind and empty just ahead, else none
pub record IsBoundary (unit : LengthUnit) (bytes : List ℕ) (f : Tree) : Type 0 where
  pub vertices : List Coordinates
  pub faces : List (List ℕ)
  pub read : IsOffText bytes vertices faces
  pub own_vertices : AreVerticesOf faces vertices
  pub bounding : All (IsBoundaryFace unit f vertices) faces
  pub covered : (n : Coefficients) (p : Coordinates) → IsOnOneFacePlane f n (in_steps unit p) →
      OneExactlyWhere (is_boundary_at f n (in_steps unit p)) (FaceCovers unit vertices n p) faces
  pub closed : IsClosedSurface unit vertices faces
