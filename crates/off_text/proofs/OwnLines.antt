-- The lines of faces by their numbers, one face after another.
use Rattle.std.proofs.Common.{◌≡◌, ℕ, ◌≤◌, List, [], ◌∷◌, ◌++◌, flat_map, length, take, drop, refl, ap, ap₂, ◌∙◌, arith}
use Rattle.std.proofs.lemmas.List.{take-append-le, drop-append-le, take_all, drop_all}
use Rattle.plane_predicate.specs.declared.unit.Unit.{Unit as LengthUnit}
use Rattle.plane_predicate.specs.Space.{Coordinates}
use Rattle.plane_polygon.specs.Polygons.{Outline}
use Rattle.off_text.specs.declared.numbering.FaceNumbers.{FaceNumbers}
use Rattle.off_text.specs.Reading.{face_line}
use Rattle.off_text.specs.Numbering.{HaveLines}
use Rattle.off_text.specs.FaceNumbers.{corner_counts, all_numbers, lines_from, lines_of, HaveNumbers}

-- a face's numbers before those of others
own_front : (face rest : List ℕ) → take (length face) (face ++ rest) ≡ face
own_front face rest = let whole : length face ≤ length face = omega arith in take-append-le (length face) face rest whole ∙ take_all (length face) face whole

own_back : (face rest : List ℕ) → drop (length face) (face ++ rest) ≡ rest
own_back face rest = let whole : length face ≤ length face = omega arith in drop-append-le (length face) face rest whole ∙ ap (λ (ns : List ℕ). ns ++ rest) (drop_all (length face) face whole)

lines_numbered : (faces : List (List ℕ)) → lines_from (corner_counts faces) (all_numbers faces) ≡ flat_map face_line faces
lines_numbered [] = refl
lines_numbered (face ∷ faces) =
    ap₂ (λ (x y : List ℕ). x ++ y)
    (ap face_line (own_front face (all_numbers faces)))
    (ap (lines_from (corner_counts faces)) (own_back face (all_numbers faces)) ∙ lines_numbered faces)

-- the lines of numbered faces
pub own_lines : (unit : LengthUnit) (polygons : List Outline) (vertices : List Coordinates) (faces : FaceNumbers) → HaveNumbers unit polygons vertices faces → HaveLines unit polygons vertices (lines_of faces)
own_lines unit polygons vertices faces h = record {
  faces = h.faces;
  numbered = h.numbered;
  lines_are = ap₂ lines_from h.sides h.numbers ∙ lines_numbered h.faces;
}
