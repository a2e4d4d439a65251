-- The sides of a solid's planes as a point on one of them has them just behind it and just ahead, and the
-- facets there.
use Rattle.std.specs.Prelude.{◌≡◌, ◌≢◌, ◌⊎◌, Bool, true, false, not, ◌&&◌, if◌then◌else◌, List, [], ◌∷◌, pos}
use Rattle.plane_predicate.specs.Space.{Coefficients, Coordinates, value, opposite_of}
use Rattle.plane_polygon.specs.Polygons.{Outline, Covers, IsPolygon, IsStrictlyWithin}
use Rattle.plane_polygon.specs.Parts.{is_behind}
use Rattle.bsp_tree.specs.Trees.{BspTree, inside, outside, node}
use Rattle.bsp_tree.specs.Cells.{IsInCell, IsInClosedCell, IsNodePlaneOf}

-- the walk that takes, at each node, the side that its plane is given (true: behind): whether it ends in a
-- leaf inside
abbrev pub walk_by : BspTree → (Coefficients → Bool) → Bool
walk_by inside sides = true
walk_by outside sides = false
walk_by (node t b a) sides = if sides t.plane then walk_by b sides else walk_by a sides

-- the sides of a point on n that is moved a little to behind n: every other plane has the point's side
pub record AreJustBehind (n : Coefficients) (p : Coordinates) (sides : Coefficients → Bool) : Type 0 where
  pub itself : sides n ≡ true
  pub opposite : sides (opposite_of n) ≡ false
  pub others : (m : Coefficients) → m ≢ n → m ≢ opposite_of n → sides m ≡ is_behind m p

-- the same for the point moved a little to ahead of n
pub record AreJustAhead (n : Coefficients) (p : Coordinates) (sides : Coefficients → Bool) : Type 0 where
  pub itself : sides n ≡ false
  pub opposite : sides (opposite_of n) ≡ true
  pub others : (m : Coefficients) → m ≢ n → m ≢ opposite_of n → sides m ≡ is_behind m p

-- the point is in the cell and on n, and on no plane of the solid but n and its opposite
pub record IsOnOneNodePlane (cell : List Coefficients) (t : BspTree) (n : Coefficients) (p : Coordinates) : Type 0
  where
    pub point_in : IsInCell cell p
    pub on : value n p ≡ pos 0
    pub alone : (m : Coefficients) → IsNodePlaneOf m t → value m p ≡ pos 0 → (m ≡ n) ⊎ (m ≡ opposite_of n)

-- the facet faces n, and the point is strictly within all its edges
pub record CoversFacing (n : Coefficients) (p : Coordinates) (s : Outline) : Type 0 where
  pub faces : s.plane ≡ n
  pub within : IsStrictlyWithin s p

-- what each facet of a solid of a cell is: a polygon, of the plane of some node or its opposite, whose
-- points are points of the closed cell
pub record IsFacetOf (cell : List Coefficients) (t : BspTree) (s : Outline) : Type 0 where
  pub polygon : IsPolygon s
  pub plane : IsNodePlaneOf s.plane t ⊎ IsNodePlaneOf (opposite_of s.plane) t
  pub closed : (p : Coordinates) → Covers s p → IsInClosedCell cell p

-- no item has P
abbrev pub HasNone : {A : Type 0} → (A → Type 0) → List A → Type 0
HasNone P [] = Unit {0}
HasNone P (x ∷ xs) = (P x → ⊥) × HasNone P xs

-- exactly one item has P: the first and none of the others, or one of the others and not the first
abbrev pub HasOne : {A : Type 0} → (A → Type 0) → List A → Type 0
HasOne P [] = ⊥
HasOne P (x ∷ xs) = (P x × HasNone P xs) ⊎ ((P x → ⊥) × HasOne P xs)

-- exactly one where it is so, and else none
abbrev pub HasOneWhere : {A : Type 0} → Bool → (A → Type 0) → List A → Type 0
HasOneWhere true P xs = HasOne P xs
HasOneWhere false P xs = HasNone P xs

-- the facets bound a solid in a cell: where it is inside just behind a point on one of its planes and not
-- just ahead, exactly one facet covers the point and faces that way, and none does otherwise
abbrev pub BoundSolid : List Coefficients → BspTree → List Outline → Type 0
BoundSolid cell t facets =
    (n : Coefficients) (p : Coordinates) → IsOnOneNodePlane cell t n p →
    (low high : Coefficients → Bool) → AreJustBehind n p low → AreJustAhead n p high →
    HasOneWhere (walk_by t low && not (walk_by t high)) (CoversFacing n p) facets
