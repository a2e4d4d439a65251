-- Convex polygons of space, as planes bounded by planes (Bernstein and Fussell).
use Rattle.std.specs.Prelude.{◌≡◌, ◌≢◌, ℕ, suc, ◌≤◌, ◌<◌, List, [], ◌∷◌, length, get_or, ℤ, pos, ◌+ℤ◌, ◌*ℤ◌, ◌<ℤ◌, ◌≤ℤ◌}
use Rattle.plane_predicate.specs.Space.{Coefficients, Coordinates, value, meeting_by_cramers_rule, meeting, orientation_seen_from, IsPointTimes, HasNoCommonFactor}
use Rattle.plane_predicate.specs.Indices.{index_after}

-- a plane with a cyclic list of edge planes, counterclockwise seen from ahead of it
pub record Outline : Type 0 where
  pub plane : Coefficients
  pub edges : List Coefficients

-- the plane without a direction, past the end of a list
abbrev pub missing_plane : Coefficients
missing_plane = record { a = pos 0; b = pos 0; c = pos 0; d = pos 0 }

-- edge i goes from corner i - 1 to corner i
abbrev pub edge_plane : Outline → ℕ → Coefficients
edge_plane s i = get_or s.edges i missing_plane

-- how many edges there are
abbrev pub edge_count : Outline → ℕ
edge_count s = length s.edges

-- corner i: the meeting of the plane with edge i, which ends there, and the next edge. Its w is that of Cramer's rule: above 0
-- exactly where it exists and the next edge bends to the left
abbrev pub corner : Outline → ℕ → Coordinates
corner s i = meeting_by_cramers_rule s.plane (edge_plane s i) (edge_plane s (index_after (edge_count s) i))

-- at least three edges; each corner exists, the corners go counterclockwise seen from ahead, and each is strictly behind
-- every edge other than its own two
pub record IsPolygon (s : Outline) : Type 0 where
  pub three : 3 ≤ edge_count s
  pub turns_left : (i : ℕ) → i < edge_count s → pos 0 <ℤ (corner s i).w
  pub behind : (i j : ℕ) → i < edge_count s → j < edge_count s → j ≢ i → j ≢ index_after (edge_count s) i → value (edge_plane s j) (corner s i) <ℤ pos 0

-- corner i as a point, with its w above 0 where it exists
abbrev pub corner_point : Outline → ℕ → Coordinates
corner_point s i = meeting s.plane (edge_plane s i) (edge_plane s (index_after (edge_count s) i))

-- the same said of the corners as points: at least three, each exists and is strictly behind all edges but its own two, and all
-- others lie strictly left of each way from a corner to the next
pub record HasConvexCorners (s : Outline) : Type 0 where
  pub three : 3 ≤ edge_count s
  pub exist : (i : ℕ) → i < edge_count s → (corner s i).w ≢ pos 0
  pub behind : (i j : ℕ) → i < edge_count s → j < edge_count s → j ≢ i → j ≢ index_after (edge_count s) i → value (edge_plane s j) (corner_point s i) <ℤ pos 0
  pub left : (i j : ℕ) → i < edge_count s → j < edge_count s → j ≢ i → j ≢ index_after (edge_count s) i → pos 0 <ℤ orientation_seen_from s.plane (corner_point s i) (corner_point s (index_after (edge_count s) i)) (corner_point s j)

-- the points of a polygon: on its plane, and not ahead of any edge
pub record Covers (s : Outline) (p : Coordinates) : Type 0 where
  pub weight : pos 0 <ℤ p.w
  pub on : value s.plane p ≡ pos 0
  pub within : (j : ℕ) → j < edge_count s → value (edge_plane s j) p ≤ℤ pos 0

-- p is a combination of a, b and c with weights of at least 0: k p = u a + v b + t c, as every plane sees it
pub record IsBetween (a b c p : Coordinates) : Type 0 where
  pub u : ℤ
  pub v : ℤ
  pub t : ℤ
  pub k : ℤ
  pub whole : pos 0 <ℤ k
  pub first : pos 0 ≤ℤ u
  pub second : pos 0 ≤ℤ v
  pub third : pos 0 ≤ℤ t
  pub sum : (m : Coefficients) → k *ℤ value m p ≡ u *ℤ value m a +ℤ v *ℤ value m b +ℤ t *ℤ value m c

-- p is between corner 0 and two neighbouring corners: a triangle of the fan from corner 0
pub record IsInFan (s : Outline) (p : Coordinates) : Type 0 where
  pub from : ℕ
  pub inside : suc from < edge_count s
  pub between : IsBetween (corner s 0) (corner s from) (corner s (suc from)) p

-- p is on the plane and strictly behind every edge
pub record IsStrictlyWithin (s : Outline) (p : Coordinates) : Type 0 where
  pub on : value s.plane p ≡ pos 0
  pub behind : (j : ℕ) → j < edge_count s → value (edge_plane s j) p <ℤ pos 0

-- p is on the plane and strictly left of each way from a corner to the next, seen from ahead
pub record IsStrictlyLeft (s : Outline) (p : Coordinates) : Type 0 where
  pub on : value s.plane p ≡ pos 0
  pub left : (i : ℕ) → i < edge_count s → pos 0 <ℤ orientation_seen_from s.plane (corner s i) (corner s (index_after (edge_count s) i)) p

-- the second points are the first ones, in order, each without a common factor
abbrev pub AreReducedFrom : List Coordinates → List Coordinates → Type 0
AreReducedFrom [] [] = Unit {0}
AreReducedFrom (p ∷ ps) (q ∷ qs) = IsPointTimes p q × HasNoCommonFactor q × AreReducedFrom ps qs
AreReducedFrom [] (q ∷ qs) = ⊥
AreReducedFrom (p ∷ ps) [] = ⊥
