-- The parts of a solid behind and ahead of the plane of a polygon (Bernstein and Fussell).
use Rattle.std.specs.Prelude.{◌≡◌, if◌then◌else◌, List, ◌∷◌, pos, ◌<ℤ◌}
use Rattle.plane_predicate.specs.Space.{Coordinates, Coefficients, value, opposite_of, is_same}
use Rattle.plane_polygon.specs.Polygons.{Outline}
use Rattle.plane_polygon.specs.declared.classes.Class.{Class}
use Rattle.plane_polygon.specs.declared.classes.Class.TheVariants.{Behind, Ahead, Across}
use Rattle.plane_polygon.specs.Parts.{class_of, part_behind, part_ahead}
use Rattle.bsp_tree.specs.Trees.{BspTree, inside, outside, node, walk, node_or_leaf}
use Rattle.bsp_tree.specs.Cells.{HasPlanesOf, IsPolygonOfCell, IsInCell, IsOfCell, IsOffPlanesOf}
use Rattle.bsp_tree.specs.declared.part.Part.{Part}
use Rattle.bsp_tree.specs.declared.part.Part.TheVariants.{Low, High}

-- t and s are across each other's planes: both parts of t, with the parts of the sides by the parts of s
abbrev pub parts_where_across : Outline → Outline → BspTree × BspTree → BspTree × BspTree → BspTree × BspTree
parts_where_across s t low high = (
  node_or_leaf (part_behind t s.plane) low.0 high.0,
  node_or_leaf (part_ahead t s.plane) low.1
      high.1,
)

-- s lies behind t's plane, and t in the low part, behind s's, or in the high one, ahead of it: t and the side a stay
-- whole
abbrev pub parts_where_behind : Part → Outline → BspTree × BspTree → BspTree → BspTree × BspTree
parts_where_behind Low t low a = (node_or_leaf t low.0 a, low.1)
parts_where_behind High t low a = (low.0, node_or_leaf t low.1 a)

-- s lies ahead of t's plane, and t in the low part, behind s's, or in the high one, ahead of it: t and the side b stay
-- whole
abbrev pub parts_where_ahead : Part → Outline → BspTree → BspTree × BspTree → BspTree × BspTree
parts_where_ahead Low t b high = (node_or_leaf t b high.0, high.1)
parts_where_ahead High t b high = (high.0, node_or_leaf t b high.1)

-- the two parts of a node with the polygon t and the solids b and a: `low` and `high` are those of b and a by s, `low_part` and
-- `high_part` those by the part of s there
abbrev pub parts_by_class : Class → Class → Outline → Outline → BspTree → BspTree → BspTree × BspTree → BspTree × BspTree → BspTree × BspTree →
    BspTree × BspTree → BspTree × BspTree
parts_by_class Across Across s t b a low high low_part high_part = parts_where_across s t low_part high_part
parts_by_class Behind Behind s t b a low high low_part high_part = parts_where_behind Low t low a
parts_by_class Behind Ahead s t b a low high low_part high_part = parts_where_behind High t low a
parts_by_class Ahead Behind s t b a low high low_part high_part = parts_where_ahead Low t b high
parts_by_class Ahead Ahead s t b a low high low_part high_part = parts_where_ahead High t b high
parts_by_class _ _ s t b a low high low_part high_part = (b, a)

-- the parts behind and ahead of s's plane: a leaf is both its parts, a node on the same plane has its two solids as
-- its parts, and else they go by how the two polygons lie
abbrev pub divide : BspTree → Outline → BspTree × BspTree
divide inside s = (inside, inside)
divide outside s = (outside, outside)
divide (node t b a) s =
    if is_same t.plane s.plane then (b, a)
    else if is_same t.plane (opposite_of s.plane) then (a, b)
    else parts_by_class (class_of s t.plane) (class_of t s.plane) s t b a
    (divide b s) (divide a s) (divide b (part_behind s t.plane)) (divide a (part_ahead s t.plane))

-- the parts of a solid keep the walk of a point that is off the plane m: the part on its side walks as the solid does
pub record KeepsWalkAt (t : BspTree) (m : Coefficients) (parts : BspTree × BspTree) (p : Coordinates) : Type 0 where
  pub low : value m p <ℤ pos 0 → walk parts.0 p ≡ walk t p
  pub high : pos 0 <ℤ value m p → walk parts.1 p ≡ walk t p

-- a solid and a polygon are of one cell
pub record AreOfOneCell (cell : List Coefficients) (t : BspTree) (s : Outline) : Type 0 where
  pub solid : IsOfCell cell t
  pub polygon : IsPolygonOfCell cell s

-- for each cell that the solid and the polygon are of, and each point of the cell off the solid's planes, the part on
-- the point's side of the polygon's plane walks as the solid does
abbrev pub KeepWalks : BspTree → Outline → BspTree × BspTree → Type 0
KeepWalks t s parts =
    (cell : List Coefficients) → AreOfOneCell cell t s → (p : Coordinates) → IsInCell cell p → IsOffPlanesOf t p →
    KeepsWalkAt t s.plane parts p

-- for each cell that the solid and the polygon are of, the parts are of its halves behind and ahead of the plane
abbrev pub AreOfHalves : BspTree → Outline → BspTree × BspTree → Type 0
AreOfHalves t s parts =
    (cell : List Coefficients) → AreOfOneCell cell t s →
    IsOfCell (s.plane ∷ cell) parts.0 × IsOfCell (opposite_of s.plane ∷ cell) parts.1

-- no plane of the parts is new
abbrev pub HaveNoNewPlane : BspTree → BspTree × BspTree → Type 0
HaveNoNewPlane t parts = HasPlanesOf parts.0 t × HasPlanesOf parts.1 t
