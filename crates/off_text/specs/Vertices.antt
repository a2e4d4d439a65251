-- The vertices of a 4OFF text: different points of space, each of them a corner of a face. Vertices are in units.
use Rattle.std.specs.Prelude.{◌≡◌, ℕ, ◌<◌, true, List, length, flat_map, slice_index_or, Contains}
use Rattle.plane_predicate.specs.Space.{Coordinates, origin}
use Rattle.closed_surface.specs.Ways.{is_same_point_of_space}

-- the vertices of faces, which name them by number from 0: no two of them are one point, and some face names each of them
pub record AreVerticesOf (faces : List (List ℕ)) (vertices : List Coordinates) : Type 0 where
  pub different : (i j : ℕ) → i < length vertices → j < length vertices →
      is_same_point_of_space (slice_index_or vertices i origin) (slice_index_or vertices j origin) ≡ true → i ≡ j
  pub used : (i : ℕ) → i < length vertices → Contains (flat_map (λ face. face) faces) i
