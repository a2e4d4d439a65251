-- The numbers of the edges of the parts of a face.
use Rattle.std.specs.Prelude.{◌≡◌, ℕ, Bool, true, false, List, [], ◌∷◌, get_or, length}
use Rattle.plane_predicate.specs.Space.{Coefficients}
use Rattle.plane_polygon.specs.Polygons.{Outline}
use Rattle.plane_polygon.specs.Parts.{index_before, part_behind, part_ahead}
use Rattle.plane_polygon.specs.declared.classes.Class.TheVariants.{Across}
use Rattle.plane_table.specs.declared.cutting.Crossing.{Crossing}
use Rattle.plane_table.specs.declared.cutting.Half.{Half}
use Rattle.plane_table.specs.declared.cutting.Half.TheVariants.{Behind, Ahead}
use Rattle.plane_table.specs.declared.sorting.CornerSide.{CornerSide}
use Rattle.plane_table.specs.Tables.{plane_named, opposite_number, NamesPlaneIn}
use Rattle.plane_table.specs.Faces.{outline_of, AreSidesWhereAcross, IsFaceOver}

-- on the plane
abbrev pub on_the_plane : CornerSide
on_the_plane = record { is_behind = false; is_ahead = false }

-- what an edge gives to the part behind a plane, by which of its two corners are strictly behind it: itself where one is, and
-- then the plane where the edge leaves that side
abbrev pub kept_numbers : Bool → Bool → ℕ → ℕ → List ℕ
kept_numbers true true e m = e ∷ []
kept_numbers true false e m = e ∷ m ∷ []
kept_numbers false true e m = e ∷ []
kept_numbers false false e m = []

-- a corner lies strictly in a half space
abbrev pub is_strictly_in_half : Half → CornerSide → Bool
is_strictly_in_half Behind side = side.is_behind
is_strictly_in_half Ahead side = side.is_ahead

-- the number of the plane that has the half space behind it
abbrev pub side_number : Half → ℕ → ℕ
side_number Behind m = m
side_number Ahead m = opposite_number m

-- what edge i gives to the part in a half space of the plane of number m
abbrev pub numbers_kept_at : Half → List ℕ → ℕ → List CornerSide → ℕ → List ℕ
numbers_kept_at half edges m corners i =
    kept_numbers (is_strictly_in_half half (get_or corners (index_before (length edges) i) on_the_plane)) (is_strictly_in_half half (get_or corners i on_the_plane))
    (get_or edges i 0) (side_number half m)

-- the part of an outline in a half space
abbrev pub part_in : Half → Outline → Coefficients → Outline
part_in Behind s m = part_behind s m
part_in Ahead s m = part_ahead s m

-- the face is across the plane of the number, and has these sides
pub record IsCrossing (planes : List Coefficients) (crossing : Crossing) : Type 0 where
  pub face : IsFaceOver planes crossing.face.now
  pub number : NamesPlaneIn planes crossing.number
  pub sides : AreSidesWhereAcross (outline_of planes crossing.face.now) (plane_named planes crossing.number) crossing.sides.now
  pub across : crossing.sides.now.class ≡ Across
