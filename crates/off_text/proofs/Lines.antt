-- The numbers of faces, put down one after another, and the text of lines.
use Rattle.std.proofs.Common.{◌≡◌, ℕ, suc, ◌<◌, ◌≤◌, ◌+◌, List, [], ◌∷◌, ◌++◌, flat_map, take, length, get_or, refl, sym, ap, ap₂, ◌∙◌, append-nil, codes}
use Rattle.std.proofs.lemmas.List.{length-map, map-append}
use Rattle.std.proofs.lemmas.Grind.{flat_map-append}
use Rattle.std.proofs.lemmas.List.Elements.{All-nil}
use Rattle.plain_text.specs.Decimals.{numeral}
use Rattle.plane_predicate.specs.declared.unit.Unit.{Unit as LengthUnit}
use Rattle.plane_predicate.specs.Space.{Coordinates}
use Rattle.plane_polygon.specs.Polygons.{Outline, IsPolygon}
use Rattle.off_text.specs.Reading.{vertex_line, off_text}
use Rattle.off_text.specs.Texts.{vertices_of, AreCornersOf, IsTextOf}
use Rattle.off_text.specs.declared.numbering.FaceNumbers.{FaceNumbers}
use Rattle.off_text.specs.Numbering.{HaveLines}
use Rattle.off_text.specs.FaceNumbers.{corner_counts, all_numbers, AddsNumbers, HaveNumbers}
use Rattle.off_text.proofs.Pieces.{text-written}
use Rattle.off_text.proofs.Gathered.{AreGathered, gathered_next, gathered_end}

-- the vertices of these polygons, numbered from none on, and the numbers of their faces
pub record AreWritten (unit : LengthUnit) (polygons : List Outline) (vertices : List Coordinates) (all : FaceNumbers) : Type 0 where
  pub faces : List (List ℕ)
  pub gathered : AreGathered unit polygons vertices faces
  pub sides : all.sides.items ≡ corner_counts faces
  pub numbers : all.numbers.items ≡ all_numbers faces

pub written_none : (unit : LengthUnit) (vertices : List Coordinates) (all : FaceNumbers) → vertices ≡ [] → all.sides.items ≡ [] → all.numbers.items ≡ [] → AreWritten unit [] vertices all
written_none unit vertices all v s n = record {
  faces = [];
  gathered = record { all_polygons = All-nil IsPolygon; found = []; corners = tt; vertices_are = v; faces_are = refl };
  sides = s;
  numbers = n;
}

-- a polygon more of a list
pub written_next : (unit : LengthUnit) (polygons : List Outline) (i : ℕ) (s : Outline) → i < length polygons → s ≡ get_or polygons i s →
    (vertices : List Coordinates) (before : FaceNumbers) → AreWritten unit (take i polygons) vertices before →
    (new : List Coordinates) (all : FaceNumbers) → AddsNumbers unit s vertices new before all → AreWritten unit (take (i + 1) polygons) new all
written_next unit polygons i s h is vertices before w new all a = record {
  faces = w.faces ++ a.face ∷ [];
  gathered = gathered_next unit polygons i s h is vertices w.faces w.gathered new a.face (w.faces ++ a.face ∷ []) a.adds refl;
  sides = a.sides ∙ ap (λ (ns : List ℕ). ns ++ length a.face ∷ []) w.sides ∙ sym (map-append (λ (face : List ℕ). length face) w.faces (a.face ∷ []));
  numbers = a.numbers ∙ ap₂ (λ (x y : List ℕ). x ++ y) w.numbers (sym (append-nil a.face)) ∙ sym (flat_map-append (λ (face : List ℕ). face) w.faces (a.face ∷ []));
}

pub written_end : (unit : LengthUnit) (polygons : List Outline) (i : ℕ) (vertices : List Coordinates) (all : FaceNumbers) → length polygons ≤ i → AreWritten unit (take i polygons) vertices all → HaveNumbers unit polygons vertices all
written_end unit polygons i vertices all h w = record { faces = w.faces; numbered = gathered_end unit polygons i vertices w.faces h w.gathered; sides = w.sides; numbers = w.numbers }

-- there is a face for each polygon
faces_counted : (unit : LengthUnit) (polygons : List Outline) (found : List (List Coordinates)) → AreCornersOf unit polygons found → length found ≡ length polygons
faces_counted unit [] [] h = refl
faces_counted unit [] (f ∷ found) h = absurd h
faces_counted unit (s ∷ polygons) [] h = absurd h
faces_counted unit (s ∷ polygons) (f ∷ found) h = ap suc (faces_counted unit polygons found h.1)

-- vertices and lines make the text
pub lines_text : (unit : LengthUnit) (polygons : List Outline) (vertices : List Coordinates) (lines bytes : List ℕ) → HaveLines unit polygons vertices lines →
    bytes ≡ ((((codes "4OFF\n" ++ numeral (length vertices)) ++ 32 ∷ numeral (length polygons)) ++ codes " 0\n") ++ flat_map vertex_line vertices) ++ lines →
    IsTextOf unit polygons bytes
lines_text unit polygons vertices lines bytes h e =
    let found = h.numbered.found in
    let count : length h.faces ≡ length polygons =
    ap length h.numbered.faces_are ∙ length-map _ _ ∙ length-map _ _ ∙ faces_counted unit polygons found h.numbered.corners in
    record {
      faces = found;
      corners = h.numbered.corners;
      spelled = e
          ∙ ap (λ (n : ℕ). ((((codes "4OFF\n" ++ numeral (length vertices)) ++ 32 ∷ numeral n) ++ codes " 0\n") ++ flat_map vertex_line vertices) ++ lines) (sym count)
          ∙ text-written vertices h.faces lines h.lines_are
          ∙ ap (λ (v : List Coordinates). off_text v h.faces) h.numbered.vertices_are ∙ ap (off_text (vertices_of found)) h.numbered.faces_are;
    }
