-- Crossings of directed segments with convex faces, by the signs of whole numbers.
use Rattle.std.specs.Prelude.{◌≡◌, ◌≢◌, ◌⊎◌, ℕ, ◌+◌, ◌<◌, ◌≤◌, Bool, true, ◌&&◌, cond, ℤ, pos, ◌-ℤ◌, ◌+ℤ◌, ◌*ℤ◌, ◌<ℤ◌, int_lt, unsigned_abs, List, length, get_or, map, flat_map}
use Rattle.std.specs.List.{list_all}
use Rattle.plane_predicate.specs.Space.{Coefficients, Coordinates, determinant, orientation_seen_from, value, origin, has_same_numbers}
use Rattle.primitives.specs.DirectedEdges.{next_in_face}
use Rattle.closed_faces.specs.Sums.{times_in}
use Rattle.plane_predicate.specs.Indices.{indices_below}
use Rattle.plane_predicate.specs.Sums.{sum_over}

-- a face: its plane, and its corners in order, counterclockwise seen from ahead
pub record Face : Type 0 where
  pub plane : Coefficients
  pub corners : List Coordinates

-- a directed segment from one point to another
pub record Segment : Type 0 where
  pub from : Coordinates
  pub to : Coordinates

-- the segment in the other direction
abbrev pub reversed_segment : Segment → Segment
reversed_segment e = record { from = e.to; to = e.from }

-- the same segment
abbrev pub is_same_segment : Segment → Segment → Bool
is_same_segment e g = has_same_numbers e.from g.from && has_same_numbers e.to g.to

-- how many corners a face has
abbrev pub count_of_corners : Face → ℕ
count_of_corners f = length f.corners

-- the corner with this number
abbrev pub vertex : Face → ℕ → Coordinates
vertex f k = get_or f.corners k origin

-- the edge from a corner to the next one, round the face
abbrev pub edge_of_face : Face → ℕ → Segment
edge_of_face f k = record { from = vertex f k; to = vertex f (next_in_face k (count_of_corners f)) }

-- the edges of a face, once round
abbrev pub edges_of_face : Face → List Segment
edges_of_face f = map (edge_of_face f) (indices_below (count_of_corners f))

-- at least three corners with weights above 0, all on the face's plane; and each corner that is no end of an edge lies
-- strictly left of it, seen from ahead
pub record IsConvexFace (f : Face) : Type 0 where
  pub directed : 0 < unsigned_abs f.plane.a + unsigned_abs f.plane.b + unsigned_abs f.plane.c
  pub three : 3 ≤ count_of_corners f
  pub weights : (k : ℕ) → k < count_of_corners f → pos 0 <ℤ (vertex f k).w
  pub on : (k : ℕ) → k < count_of_corners f → value f.plane (vertex f k) ≡ pos 0
  pub left : (k i : ℕ) → k < count_of_corners f → i < count_of_corners f → i ≢ k → i ≢ next_in_face k (count_of_corners f) → pos 0 <ℤ orientation_seen_from f.plane (vertex f k) (vertex f (next_in_face k (count_of_corners f))) (vertex f i)

-- each directed edge stands as often as its reverse
abbrev pub HavePairedEdges : List Face → Type 0
HavePairedEdges faces = (e : Segment) → times_in is_same_segment (flat_map edges_of_face faces) e ≡ times_in is_same_segment (flat_map edges_of_face faces) (reversed_segment e)

-- a segment from behind a plane to ahead of it
abbrev pub goes_ahead : Coefficients → Coordinates → Coordinates → Bool
goes_ahead n a b = int_lt (value n a) (pos 0) && int_lt (pos 0) (value n b)

-- where the segment from a point behind a plane to one ahead of it meets the plane: each of the two, as often as the value at
-- the other says
abbrev pub meeting_point : Coefficients → Coordinates → Coordinates → Coordinates
meeting_point n a b = record {
  x = value n b *ℤ a.x -ℤ value n a *ℤ b.x;
  y = value n b *ℤ a.y -ℤ value n a *ℤ b.y;
  z = value n b *ℤ a.z -ℤ value n a *ℤ b.z;
  w = value n b *ℤ a.w -ℤ value n a *ℤ b.w;
}

-- a point is strictly left of each edge of a face, seen from ahead
abbrev pub is_left_of_all : Face → Coordinates → Bool
is_left_of_all f x = list_all (λ e. int_lt (pos 0) (orientation_seen_from f.plane e.from e.to x)) (edges_of_face f)

-- 1 where a segment goes from behind a face to ahead of it, strictly inside all of its edges
abbrev pub passage : Face → Coordinates → Coordinates → ℤ
passage f a b = cond (goes_ahead f.plane a b && is_left_of_all f (meeting_point f.plane a b)) (pos 1) (pos 0)

-- the crossing of a segment with a face: 1 from behind to ahead, -1 from ahead to behind, and 0 where it misses the face
abbrev pub crossing_with_face : Face → Coordinates → Coordinates → ℤ
crossing_with_face f a b = passage f a b -ℤ passage f b a

-- the crossings of a segment with all faces
abbrev pub crossings_with_faces : List Face → Segment → ℤ
crossings_with_faces faces e = sum_over (λ f. crossing_with_face f e.from e.to) faces

-- the ends of a segment lie strictly on the two sides of a plane
abbrev pub IsCutByPlane : Coefficients → Segment → Type 0
IsCutByPlane n e = (goes_ahead n e.from e.to ≡ true) ⊎ (goes_ahead n e.to e.from ≡ true)

-- the determinant of four points: 0 where the line of the first two meets that of the others, or is parallel to it
abbrev pub volume : Coordinates → Coordinates → Coordinates → Coordinates → ℤ
volume p q r s =
    p.x *ℤ determinant q.y q.z q.w r.y r.z r.w s.y s.z s.w -ℤ p.y *ℤ determinant q.x q.z q.w r.x r.z r.w s.x s.z s.w +ℤ p.z *ℤ determinant q.x q.y q.w r.x r.y r.w s.x s.y s.w
    -ℤ p.w *ℤ determinant q.x q.y q.z r.x r.y r.z s.x s.y s.z

-- a polygon in general position with a face: neither has a corner on the other's plane, and where a side and an edge both
-- cross the other's plane, their lines don't meet
pub record ArePolygonsInGeneralPosition (t f : Face) : Type 0 where
  pub sides_off : (i : ℕ) → i < count_of_corners t → value f.plane (vertex t i) ≢ pos 0
  pub edges_off : (j : ℕ) → j < count_of_corners f → value t.plane (vertex f j) ≢ pos 0
  pub apart : (i j : ℕ) → i < count_of_corners t → j < count_of_corners f → IsCutByPlane f.plane (edge_of_face t i) → IsCutByPlane t.plane (edge_of_face f j) →
      volume (vertex t i) (vertex t (next_in_face i (count_of_corners t))) (vertex f j) (vertex f (next_in_face j (count_of_corners f))) ≢ pos 0
