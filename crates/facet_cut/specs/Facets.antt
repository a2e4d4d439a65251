-- The facets of a solid: the parts of its nodes' polygons with the solid on one side alone (Bernstein and
-- Fussell).
use Rattle.std.specs.Prelude.{Bool, true, false, List, [], ◌∷◌, ◌++◌, flat_map, reverse}
use Rattle.plane_predicate.specs.Space.{opposite_of}
use Rattle.plane_polygon.specs.Polygons.{Outline}
use Rattle.plane_polygon.specs.declared.classes.Class.{Class}
use Rattle.plane_polygon.specs.declared.classes.Class.TheVariants.{Behind, Ahead, On, Across}
use Rattle.plane_polygon.specs.Parts.{class_of, part_behind, part_ahead}
use Rattle.bsp_tree.specs.Trees.{BspTree, inside, outside, node}

-- a part of a polygon that lies in one leaf of a solid, and whether the leaf is inside
pub record Piece : Type 0 where
  pub part : Outline
  pub is_inside : Bool

-- the pieces on the side, or on the two sides, of a plane on which a polygon lies
abbrev pub pieces_on_sides : Class → List Piece → List Piece → List Piece → List Piece → List Piece
pieces_on_sides Behind low high low_part high_part = low
pieces_on_sides On low high low_part high_part = low
pieces_on_sides Ahead low high low_part high_part = high
pieces_on_sides Across low high low_part high_part = low_part ++ high_part

-- the pieces of a polygon in a solid: in a leaf the polygon, and in a node those of its parts on the sides
-- of the plane
abbrev pub pieces : BspTree → Outline → List Piece
pieces inside s = (record { part = s; is_inside = true }) ∷ []
pieces outside s = (record { part = s; is_inside = false }) ∷ []
pieces (node t b a) s =
    pieces_on_sides (class_of s t.plane) (pieces b s) (pieces a s) (pieces b (part_behind s t.plane))
    (pieces a (part_ahead s t.plane))

-- the same polygon, seen from the other side: counterclockwise from there
abbrev pub reversed_outline : Outline → Outline
reversed_outline s = record { plane = opposite_of s.plane; edges = reverse s.edges }

-- what a polygon between two leaves gives, by whether the leaf just behind it and the one just ahead are
-- inside: itself where the solid is just behind alone, reversed where it is just ahead alone
abbrev pub facets_facing : Bool → Bool → Outline → List Outline
facets_facing true false s = s ∷ []
facets_facing false true s = reversed_outline s ∷ []
facets_facing true true s = []
facets_facing false false s = []

-- the facets on a polygon that has a leaf just behind it, from its pieces in the solid ahead
abbrev pub facets_ahead : Bool → BspTree → Outline → List Outline
facets_ahead inside_behind a s = flat_map (λ r. facets_facing inside_behind r.is_inside r.part) (pieces a s)

-- the facets on a polygon, from its pieces in the solid behind and their pieces in the solid ahead
abbrev pub facets_between : BspTree → BspTree → Outline → List Outline
facets_between b a s = flat_map (λ q. facets_ahead q.is_inside a q.part) (pieces b s)

-- the facets of a solid: at each node those on its polygon, then those of the solids behind and ahead
abbrev pub facets_of : BspTree → List Outline
facets_of inside = []
facets_of outside = []
facets_of (node s b a) = facets_between b a s ++ facets_of b ++ facets_of a
