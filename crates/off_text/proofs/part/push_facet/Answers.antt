use Rattle.std.proofs.Common.{◌≡◌, ◌≤◌, ℕ, List, [], ◌∷◌, ◌++◌, map, length, drop, take, refl, sym, ap, ap₂, ◌∙◌, subst, Result, Ok, Err, OnOk}
use Rattle.std.proofs.lemmas.List.{length-map}
use Rattle.plane_predicate.specs.declared.unit.Unit.{Unit as LengthUnit}
use Rattle.plane_predicate.specs.Space.{Coordinates}
use Rattle.plane_polygon.specs.Polygons.{Outline, AreReducedFrom, IsPolygon}
use Rattle.off_text.specs.declared.numbering.FaceNumbers.{FaceNumbers}
use Rattle.off_text.specs.Texts.{corners_in_units, from_least, is_least, vertex_number, place_of_least}
use Rattle.off_text.specs.Numbering.{with_points}
use Rattle.off_text.specs.FaceNumbers.{vertex_numbers, AddsNumbers}
use Rattle.off_text.proofs.Numbers.{place_at_most, round_length}
use Rattle.off_text.proofs.part.push_facet.Goals as goal

pub push_face-requires : goal.push_face-requires
push_face-requires c =
    let points = c.deref-2.result.now in
    let same : c.deref.result.now ≡ points = c.deref.ensures.value ∙ sym c.deref-2.ensures.value in
    subst (λ (n : ℕ). n ≤ length points) (sym (c.least_corner-start.ensures ∙ ap place_of_least same)) (place_at_most (is_least points) points)

-- a face whose numbers are put down from its least corner on
adds : {V E : Type 0} (r : Result V E) (unit : LengthUnit) (s : Outline) (old new found points : List Coordinates) (start : ℕ) (before all : FaceNumbers) →
    IsPolygon s → AreReducedFrom (corners_in_units unit s) found → start ≡ place_of_least found → points ≡ found →
    OnOk r (new ≡ with_points old (drop start points ++ take start points)) → OnOk r (all.sides.items ≡ before.sides.items ++ length points ∷ []) →
    OnOk r (all.numbers.items ≡ before.numbers.items ++ vertex_numbers new (drop start points ++ take start points)) → OnOk r (AddsNumbers unit s old new before all)
adds (Ok v) unit s old new found points start before all h k at same g c n =
    let round : drop start points ++ take start points ≡ from_least found = ap₂ (λ (i : ℕ) (ps : List Coordinates). drop i ps ++ take i ps) at same in
    let count : length points ≡ length (vertex_numbers new (drop start points ++ take start points)) =
    round_length points start (take start points) (drop start points) refl refl ∙ sym (length-map (drop start points ++ take start points) (vertex_number new)) in
    record {
      face = vertex_numbers new (drop start points ++ take start points);
      adds = record { polygon = h; found = found; corners = k; grows = g ∙ ap (with_points old) round; numbers = ap (map (vertex_number new)) round };
      sides = c ∙ ap (λ (i : ℕ). before.sides.items ++ i ∷ []) count;
      numbers = n;
    }
adds (Err stop) unit s old new found points start before all h k at same g c n = tt

pub returns : goal.returns
returns c =
    let unit = c.args.unit in
    let s = c.args.facet.now in
    let found = c.put_corners.new.corners.items in
    let polygon : IsPolygon s = subst IsPolygon c.facet.view_is c.in_ok-put_corners.ensures.polygon in
    let corners : AreReducedFrom (corners_in_units unit s) found = subst (λ (t : Outline). AreReducedFrom (corners_in_units unit t) found) c.facet.view_is c.in_ok-put_corners.ensures.corners in
    adds c.push_face.result unit s c.args.part.now.vertices.keys c.push_face.new.vertices.keys found c.deref-2.result.now c.least_corner-start.result
    c.args.part.now.faces c.push_face.new.faces
    polygon corners (c.least_corner-start.ensures ∙ ap place_of_least c.deref.ensures.value) c.deref-2.ensures.value
    c.push_face.ensures.vertices c.push_face.ensures.sides c.push_face.ensures.numbers
