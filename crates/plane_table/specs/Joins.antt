-- Planes of one list found in another.
use Rattle.std.specs.Prelude.{◌≡◌, ℕ, ◌/◌, ◌<◌, ◌≤◌, Bool, true, false, List, [], ◌∷◌, ◌++◌, ◌*◌, length, get_or, map, if◌then◌else◌, ◌==◌, ◌%◌, All}
use Rattle.plane_predicate.specs.Space.{Coefficients, IsPlane}
use Rattle.plane_polygon.specs.Polygons.{missing_plane, Outline}
use Rattle.plane_polygon.specs.Boxes.{box_outline}
use Rattle.plane_table.specs.declared.faces.Face.{Face}
use Rattle.plane_table.specs.declared.numbering.OwnFace.{OwnFace}
use Rattle.plane_table.specs.declared.numbering.HalfFaces.{HalfFaces}
use Rattle.plane_table.specs.Tables.{plane_named, opposite_number, HasNoTwoAlike, NamesPlaneIn}
use Rattle.plane_table.specs.Faces.{outline_of, IsFaceOver}

-- the k-th of the numbers names over the first list what plane k of the second list is
pub record Finds (planes : List Coefficients) (numbers : List ℕ) (from : List Coefficients) (k : ℕ) : Type 0 where
  pub in_range : NamesPlaneIn planes (get_or numbers k 0)
  pub same : plane_named planes (get_or numbers k 0) ≡ get_or from k missing_plane

-- the numbers of the first planes of the second list over the first one
pub record AreFirstNumbersOf (planes : List Coefficients) (numbers : List ℕ) (from : List Coefficients) : Type 0 where
  pub count : length numbers ≤ length from
  pub each : (k : ℕ) → k < length numbers → Finds planes numbers from k

-- for each plane of the second list its number over the first one
pub record AreNumbersOf (planes : List Coefficients) (numbers : List ℕ) (from : List Coefficients) : Type 0 where
  pub count : length numbers ≡ length from
  pub each : (k : ℕ) → k < length from → Finds planes numbers from k

-- the same for those planes that are used
pub record AreNumbersOfUsed (planes : List Coefficients) (numbers : List ℕ) (from : List Coefficients) (used : List Bool) : Type 0 where
  pub count : length numbers ≡ length from
  pub each : (k : ℕ) → k < length from → get_or used k false ≡ true → Finds planes numbers from k

-- the number that plane k of a list has among `numbers`, or its opposite's, for a number over that list
unfoldable pub number_among : List ℕ → ℕ → ℕ
number_among numbers n =
    if n % 2 == 0 then get_or numbers (n / 2) 0 else opposite_number (get_or numbers (n / 2) 0)

-- the planes that a face over the second list names have their numbers over the first one
pub record AreNumbersFound (planes : List Coefficients) (numbers : List ℕ) (from : List Coefficients) (face : Face) : Type 0 where
  pub plane : Finds planes numbers from (face.plane / 2)
  pub edges : All (λ n. Finds planes numbers from (n / 2)) face.edges

-- the planes that a face names are marked as used
pub record AreMarkedUsed (used : List Bool) (face : Face) : Type 0 where
  pub plane : get_or used (face.plane / 2) false ≡ true
  pub edges : All (λ n. get_or used (n / 2) false ≡ true) face.edges

-- a plane that is used stands at the end of the new list and has its number there, and one that isn't adds nothing
abbrev pub IsPlaneKept : Bool → Coefficients → List Coefficients → List Coefficients → ℕ → Type 0
IsPlaneKept true m old new n = (new ≡ old ++ m ∷ []) × (n ≡ 2 * length old)
IsPlaneKept false m old new n = new ≡ old

-- each number over the first list names the same plane over the second one
pub record KeepsNumbers (old new : List Coefficients) : Type 0 where
  pub in_range : (n : ℕ) → NamesPlaneIn old n → NamesPlaneIn new n
  pub same : (n : ℕ) → NamesPlaneIn old n → plane_named new n ≡ plane_named old n

-- a plane has a number over a list to which it may have been added
pub record HasNumberOver (plane : Coefficients) (old new : List Coefficients) (number : ℕ) : Type 0 where
  pub apart : HasNoTwoAlike new
  pub keeps : KeepsNumbers old new
  pub in_range : NamesPlaneIn new number
  pub same : plane_named new number ≡ plane

-- an outline as a face with the list of its planes
pub record IsOwnFaceOf (s : Outline) (own : OwnFace) : Type 0 where
  pub apart : HasNoTwoAlike own.planes.items
  pub face : IsFaceOver own.planes.items own.face
  pub outline : outline_of own.planes.items own.face ≡ s

-- the faces that planes have in the world box, in order, with the list of all planes that they name
pub record AreHalfFacesOf (from : List Coefficients) (found : HalfFaces) : Type 0 where
  pub planes : All IsPlane from
  pub apart : HasNoTwoAlike found.planes.items
  pub faces : All (IsFaceOver found.planes.items) found.faces.items
  pub outlines : map (outline_of found.planes.items) found.faces.items ≡ map box_outline from
