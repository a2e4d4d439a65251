-- Solids as binary space partitions (Bernstein and Fussell).
use Rattle.std.specs.Prelude.{ℕ, ◌+◌, Bool, true, false, if◌then◌else◌}
use Rattle.plane_predicate.specs.Space.{Coefficients, Coordinates}
use Rattle.plane_polygon.specs.Polygons.{Outline, edge_count}
use Rattle.plane_polygon.specs.Parts.{is_behind}
use Rattle.plane_polygon.specs.Boxes.{box_outline}

-- a solid: a leaf inside or outside it, or a node with a polygon, on whose plane the node divides space, and with the
-- solids behind and ahead of that plane
pub data BspTree : Type 0 where
  inside outside : BspTree
  node : Outline → BspTree → BspTree → BspTree

-- the side of each node's plane on which the point lies, down to a leaf: whether that leaf is inside
abbrev pub walk : BspTree → Coordinates → Bool
walk inside p = true
walk outside p = false
walk (node t b a) p = if is_behind t.plane p then walk b p else walk a p

-- one for each node, and one for each edge of its polygon
abbrev pub size : BspTree → ℕ
size inside = 0
size outside = 0
size (node t b a) = 1 + edge_count t + size b + size a

-- inside and outside exchanged
abbrev pub complement : BspTree → BspTree
complement inside = outside
complement outside = inside
complement (node t b a) = node t (complement b) (complement a)

-- a node, or the leaf where both sides are the same leaf
abbrev pub node_or_leaf : Outline → BspTree → BspTree → BspTree
node_or_leaf t inside inside = inside
node_or_leaf t outside outside = outside
node_or_leaf t b a = node t b a

-- the points behind a plane, in the world box
abbrev pub half_space : Coefficients → BspTree
half_space m = node (box_outline m) inside outside
