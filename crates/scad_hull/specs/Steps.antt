-- Faces that are found one after another.
use Rattle.std.specs.Prelude.{◌≡◌, ℕ, ◌<◌, ◌≤◌, Bool, true, false, not, cond, ◌&&◌, ℤ, pos, List, [], ◌∷◌, ◌++◌, get_or, length, fold, All}
use Rattle.std.specs.List.{list_any}
use Rattle.plane_predicate.specs.Space.{point_at}
use Rattle.primitives.specs.GridSizes.{IsWithinGridLimits}
use Rattle.primitives.specs.Shapes.{value_at_point}
use Rattle.scad_hull.specs.Hulls.{numbers_between, is_supporting, plane_of, shares_plane}
use Rattle.scad_hull.specs.declared.face_list.FaceList.{FaceList}

-- the faces so far, and one more triple if it is supporting and its plane is not that of a face so far
abbrev pub with_triple : List (List ℤ) → List (List ℕ) → List ℕ → List (List ℕ)
with_triple points faces t = cond (is_supporting points t && not (list_any (λ s. shares_plane points s t) faces)) (faces ++ t ∷ []) faces

-- the faces so far, and those that some more triples add
abbrev pub with_triples : List (List ℤ) → List (List ℕ) → List (List ℕ) → List (List ℕ)
with_triples points faces triples = fold (with_triple points) faces triples

-- points of a hull, and all their numbers
pub record AreNumberedPoints (points : List (List ℤ)) (all : List ℕ) : Type 0 where
  pub grid : All (λ p. IsWithinGridLimits (point_at p)) points
  pub few : length points ≤ 128
  pub numbers : all ≡ numbers_between 0 (length points)

-- the numbers of three points
pub record AreThree (count : ℕ) (t : List ℕ) : Type 0 where
  pub three : length t ≡ 3
  pub there : All (λ i. i < count) t

-- the points of a row are on the plane of a triple
abbrev pub HasPointsOn : List (List ℤ) → List ℕ → List Bool → Type 0
HasPointsOn points triple row = (k : ℕ) → get_or row k false ≡ true → value_at_point points (plane_of points triple) k ≡ pos 0

-- faces found so far: triples of points, each with a row of points on its plane
pub record AreFoundFaces (points : List (List ℤ)) (found : FaceList) : Type 0 where
  pub three : All (AreThree (length points)) found.faces.items
  pub many : length found.rows.items ≡ length found.faces.items
  pub rows : (f : ℕ) → f < length found.rows.items →
      HasPointsOn points (get_or found.faces.items f []) (get_or found.rows.items f [])

-- one of the rows, with two points in it
pub record IsCommonRow (rows : List (List Bool)) (first second : ℕ) (row : List Bool) : Type 0 where
  pub at : ℕ
  pub at_in : at < length rows
  pub is : row ≡ get_or rows at row
  pub has_first : get_or row first false ≡ true
  pub has_second : get_or row second false ≡ true

-- the plane of two points and one of a row is that of one of the faces
abbrev pub AreListed : List (List ℤ) → List (List ℕ) → ℕ → ℕ → List Bool → Type 0
AreListed points faces first second row = (k : ℕ) → get_or row k false ≡ true →
    list_any (λ s. shares_plane points s (first ∷ second ∷ k ∷ [])) faces ≡ true

-- no triple that begins with two points is supporting
abbrev pub HasNoFace : List (List ℤ) → ℕ → ℕ → Type 0
HasNoFace points first second = (k : ℕ) → is_supporting points (first ∷ second ∷ k ∷ []) ≡ false
