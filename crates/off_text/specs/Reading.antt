-- Texts in Geomview's 4OFF (Geomview manual, "OFF Files"), in one spelling.
use Rattle.std.specs.Prelude.{◌≡◌, ℕ, ◌≤◌, ◌<◌, List, ◌++◌, flat_map, length, pos, ◌<ℤ◌, unsigned_abs, All, codes}
use Prim.Native.Nat.{◌∣◌}
use Rattle.plain_text.specs.Decimals.{numeral, signed_numeral}
use Rattle.plane_predicate.specs.Space.{Coordinates}
use Rattle.plain_text.specs.Separators.{space, newline}

-- a printed vertex: the last number is above 0, and the four have no common factor above 1
pub record IsPrintedVertex (p : Coordinates) : Type 0 where
  pub weight : pos 0 <ℤ p.w
  pub reduced : (k : ℕ) → k ∣ unsigned_abs p.x → k ∣ unsigned_abs p.y → k ∣ unsigned_abs p.z → k ∣ unsigned_abs p.w → k ≡ 1

-- a printed face: at least three of the numbered vertices, counted from 0
pub record IsPrintedFace (vertices : ℕ) (indices : List ℕ) : Type 0 where
  pub three : 3 ≤ length indices
  pub known : All (λ i. i < vertices) indices

-- the line of a vertex: its four numbers
abbrev pub vertex_line : Coordinates → List ℕ
vertex_line p = signed_numeral p.x ++ space ++ signed_numeral p.y ++ space ++ signed_numeral p.z ++ space ++ signed_numeral p.w ++ newline

-- the line of a face: how many corners it has, and their numbers
abbrev pub face_line : List ℕ → List ℕ
face_line indices = numeral (length indices) ++ flat_map (λ i. space ++ numeral i) indices ++ newline

-- the line `4OFF`, the counts with a 0 for the edges, a line for each vertex and a line for each face
abbrev pub off_text : List Coordinates → List (List ℕ) → List ℕ
off_text vertices faces =
    codes "4OFF" ++ newline
    ++ numeral (length vertices) ++ space ++ numeral (length faces) ++ space ++ numeral 0 ++ newline
    ++ flat_map vertex_line vertices
    ++ flat_map face_line faces

-- the bytes are the text of these vertices and these faces
pub record IsOffText (bytes : List ℕ) (vertices : List Coordinates) (faces : List (List ℕ)) : Type 0 where
  pub spelled : bytes ≡ off_text vertices faces
  pub points : All IsPrintedVertex vertices
  pub loops : All (IsPrintedFace (length vertices)) faces
