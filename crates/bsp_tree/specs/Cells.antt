-- Cells: the open convex sets of points that the planes of the nodes above leave.
use Rattle.std.specs.Prelude.{◌≡◌, ◌↔◌, ◌⊎◌, List, [], ◌∷◌, pos, ◌<ℤ◌, ◌≤ℤ◌}
use Rattle.plane_predicate.specs.Space.{Coefficients, Coordinates, value, opposite_of, IsPlane}
use Rattle.plane_polygon.specs.Polygons.{Outline, Covers, IsPolygon}
use Rattle.plane_polygon.specs.Boxes.{high_x, low_x, high_y, low_y, high_z, low_z}
use Rattle.bsp_tree.specs.Trees.{BspTree, inside, outside, node}

-- the planes of the world box, whose points have coordinates below 4096 in size
abbrev pub world_box : List Coefficients
world_box = high_x ∷ low_x ∷ high_y ∷ low_y ∷ high_z ∷ low_z ∷ []

-- strictly behind each of the planes
abbrev pub AllBehind : List Coefficients → Coordinates → Type 0
AllBehind [] p = Unit {0}
AllBehind (m ∷ cell) p = (value m p <ℤ pos 0) × AllBehind cell p

-- ahead of none of the planes
abbrev pub NoneAhead : List Coefficients → Coordinates → Type 0
NoneAhead [] p = Unit {0}
NoneAhead (m ∷ cell) p = (value m p ≤ℤ pos 0) × NoneAhead cell p

-- a cell is given by planes: its points are those strictly behind each of them
pub record IsInCell (cell : List Coefficients) (p : Coordinates) : Type 0 where
  pub weight : pos 0 <ℤ p.w
  pub below : AllBehind cell p

-- the points of the closed cell: those ahead of none of its planes
pub record IsInClosedCell (cell : List Coefficients) (p : Coordinates) : Type 0 where
  pub weight : pos 0 <ℤ p.w
  pub below : NoneAhead cell p

-- a polygon is of a cell where its points are those of the closed cell on its plane, and some of them lie in the cell
pub record IsPolygonOfCell (cell : List Coefficients) (s : Outline) : Type 0 where
  pub polygon : IsPolygon s
  pub plane : IsPlane s.plane
  pub covers : (p : Coordinates) → Covers s p ↔ (IsInClosedCell cell p × (value s.plane p ≡ pos 0))
  pub point : Coordinates
  pub point_in : IsInCell cell point
  pub point_on : value s.plane point ≡ pos 0

-- a solid is of a cell where each node's polygon is of the cell that the planes of the nodes above it leave
abbrev pub IsOfCell : List Coefficients → BspTree → Type 0
IsOfCell cell inside = Unit {0}
IsOfCell cell outside = Unit {0}
IsOfCell cell (node s b a) = IsPolygonOfCell cell s × IsOfCell (s.plane ∷ cell) b × IsOfCell (opposite_of s.plane ∷
    cell) a

-- a solid of the world box
abbrev pub IsOfWorld : BspTree → Type 0
IsOfWorld t = IsOfCell world_box t

-- the plane of some node
abbrev pub IsNodePlaneOf : Coefficients → BspTree → Type 0
IsNodePlaneOf m inside = ⊥
IsNodePlaneOf m outside = ⊥
IsNodePlaneOf m (node s b a) = (m ≡ s.plane) ⊎ (IsNodePlaneOf m b ⊎ IsNodePlaneOf m a)

-- no plane of the first solid is new: each is one of the second
abbrev pub HasPlanesOf : BspTree → BspTree → Type 0
HasPlanesOf r t = (m : Coefficients) → IsNodePlaneOf m r → IsNodePlaneOf m t

-- the point is on no plane of the solid
abbrev pub IsOffPlanesOf : BspTree → Coordinates → Type 0
IsOffPlanesOf t p = (m : Coefficients) → IsNodePlaneOf m t → value m p ≡ pos 0 → ⊥
