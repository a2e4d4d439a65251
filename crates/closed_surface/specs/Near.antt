-- Points near by, and what covers them.
use Rattle.std.specs.Prelude.{◌≡◌, ℕ, suc, ◌<◌, ◌≤◌, Bool, true, false, ◌&&◌, ℤ, pos, ◌+ℤ◌, ◌*ℤ◌, int_lt, unsigned_abs}
use Rattle.std.specs.List.{list_all}
use Rattle.std.specs.Ordering.{int_eq}
use Rattle.plane_predicate.specs.Space.{Coefficients, Coordinates, value, minor}
use Rattle.plane_polygon.specs.Polygons.{Outline, edge_plane, edge_count, corner}
use Rattle.closed_surface.specs.Ways.{Direction, slope, is_same_point_of_space}

-- the point moved a little along v: by v over its weight and over one more than the number
abbrev pub near_point : ℕ → Coordinates → Direction → Coordinates
near_point number q v =
    record { x = pos (suc number) *ℤ q.x +ℤ v.x; y = pos (suc number) *ℤ q.y +ℤ v.y; z = pos (suc number) *ℤ q.z +ℤ v.z; w = pos (suc number) *ℤ q.w }

-- the direction from a line along v into the half of a plane that lies left of the way of v, seen from ahead of `half`
abbrev pub direction_beside : Coefficients → Direction → Direction
direction_beside half v = record { x = minor half.b half.c v.y v.z; y = minor half.c half.a v.z v.x; z = minor half.a half.b v.x v.y }

-- the number is at least how much the polygon's planes grow along v, in size
pub record BoundsSlopes (number : ℕ) (s : Outline) (v : Direction) : Type 0 where
  pub plane : unsigned_abs (slope s.plane v) ≤ number
  pub edges : (l : ℕ) → l < edge_count s → unsigned_abs (slope (edge_plane s l) v) ≤ number

-- the point is none of the polygon's corners
abbrev pub IsNoCorner : Outline → Coordinates → Type 0
IsNoCorner s q = (i : ℕ) → i < edge_count s → is_same_point_of_space (corner s i) q ≡ false

-- those planes of the polygon that go through the point hold the direction
pub record IsClear (s : Outline) (q : Coordinates) (v : Direction) : Type 0 where
  pub plane : value s.plane q ≡ pos 0 → slope s.plane v ≡ pos 0
  pub edges : (l : ℕ) → l < edge_count s → value (edge_plane s l) q ≡ pos 0 → slope (edge_plane s l) v ≡ pos 0

-- the point is on the polygon's plane and strictly behind every edge
abbrev pub is_strictly_within : Outline → Coordinates → Bool
is_strictly_within s p = int_eq (value s.plane p) (pos 0) && list_all (λ e. int_lt (value e p) (pos 0)) s.edges

-- 1 where it is so, else 0
abbrev pub indicator : Bool → ℤ
indicator true = pos 1
indicator false = pos 0
