-- A polygon against a plane, and the parts into which the plane cuts it.
use Rattle.std.specs.Prelude.{ℕ, zero, suc, ◌-◌, Bool, true, false, ◌||◌, List, [], ◌∷◌, map, flat_map, pos, int_lt}
use Rattle.plane_predicate.specs.Space.{Coefficients, Coordinates, value, opposite_of}
use Rattle.plane_polygon.specs.Polygons.{Outline, edge_plane, edge_count, corner}
use Rattle.plane_polygon.specs.declared.classes.Class.{Class}
use Rattle.plane_polygon.specs.declared.classes.Class.TheVariants.{Behind, Ahead, On, Across}
use Rattle.plane_predicate.specs.Indices.{indices_below}

-- the corners in order
abbrev pub corners : Outline → List Coordinates
corners s = map (corner s) (indices_below (edge_count s))

-- some item passes the test
abbrev pub some_of : {A : Type 0} → (A → Bool) → List A → Bool
some_of p [] = false
some_of p (x ∷ xs) = p x || some_of p xs

-- strictly behind the plane
abbrev pub is_behind : Coefficients → Coordinates → Bool
is_behind m p = int_lt (value m p) (pos 0)

-- strictly ahead of the plane
abbrev pub is_ahead : Coefficients → Coordinates → Bool
is_ahead m p = int_lt (pos 0) (value m p)

-- the class by whether some corners are strictly behind, and whether some are strictly ahead
abbrev pub class_by_sides : Bool → Bool → Class
class_by_sides true true = Across
class_by_sides true false = Behind
class_by_sides false true = Ahead
class_by_sides false false = On

-- how a polygon lies against a plane: on it where all corners are, across it where some corners lie strictly on each
-- side, else on the side of those that are off it
abbrev pub class_of : Outline → Coefficients → Class
class_of s m = class_by_sides (some_of (is_behind m) (corners s)) (some_of (is_ahead m) (corners s))

-- the index that i follows round a list of length k
abbrev pub index_before : ℕ → ℕ → ℕ
index_before k zero = k - 1
index_before k (suc i) = i

-- what an edge gives to the part behind m, by which of its two corners are strictly behind m: itself where one is, and then m
-- where the edge leaves that side
abbrev pub edges_kept_by : Bool → Bool → Coefficients → Coefficients → List Coefficients
edges_kept_by true true e m = e ∷ []
edges_kept_by true false e m = e ∷ m ∷ []
edges_kept_by false true e m = e ∷ []
edges_kept_by false false e m = []

-- what edge i gives to the part behind m
abbrev pub edges_kept_at : Outline → Coefficients → ℕ → List Coefficients
edges_kept_at s m i = edges_kept_by (is_behind m (corner s (index_before (edge_count s) i))) (is_behind m (corner s i)) (edge_plane s i) m

-- the part of a polygon behind a plane that it is across
abbrev pub part_behind : Outline → Coefficients → Outline
part_behind s m = record { plane = s.plane; edges = flat_map (edges_kept_at s m) (indices_below (edge_count s)) }

-- the part ahead is the part behind the opposite plane
abbrev pub part_ahead : Outline → Coefficients → Outline
part_ahead s m = part_behind s (opposite_of m)
