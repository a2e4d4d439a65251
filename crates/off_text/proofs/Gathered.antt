-- The faces of polygons, numbered one after another.
use Rattle.std.proofs.Common.{◌≡◌, ℕ, List, [], ◌∷◌, ◌++◌, map, flat_map, refl, sym, ap, ap₂, ◌∙◌, subst, subst₂, append-nil, add-one, All, take, take-suc, get_or, length, ◌<◌, ◌≤◌, ◌+◌}
use Rattle.std.proofs.lemmas.List.{map-append, take_all}
use Rattle.std.proofs.lemmas.List.Elements.{All-append, All-cons, All-nil}
use Rattle.std.proofs.lemmas.Grind.{flat_map-append}
use Rattle.plane_predicate.specs.declared.unit.Unit.{Unit as LengthUnit}
use Rattle.plane_predicate.specs.Space.{Coordinates}
use Rattle.plane_polygon.specs.Polygons.{Outline, IsPolygon}
use Rattle.off_text.specs.Texts.{from_least, vertex_number, printed_corners, vertices_of, AreCornersOf}
use Rattle.off_text.specs.Numbering.{with_points, AddsFace, AreNumberedFaces}
use Rattle.off_text.proofs.Numbers.{AllKnown, all_kept, grown_knows, with_points-append}
use Rattle.off_text.proofs.Distinct.{grown_from_none}

-- all corners of faces, face by face
abbrev pub joined : List (List Coordinates) → List Coordinates
joined faces = flat_map (λ corners. corners) faces

-- the vertices and the faces of these polygons, numbered from none on
pub record AreGathered (unit : LengthUnit) (polygons : List Outline) (vertices : List Coordinates) (faces : List (List ℕ)) : Type 0 where
  pub all_polygons : All IsPolygon polygons
  pub found : List (List Coordinates)
  pub corners : AreCornersOf unit polygons found
  pub vertices_are : vertices ≡ with_points [] (joined (printed_corners found))
  pub faces_are : faces ≡ map (map (vertex_number vertices)) (printed_corners found)

pub corners_append : (unit : LengthUnit) (polygons others : List Outline) (found more : List (List Coordinates)) → AreCornersOf unit polygons found → AreCornersOf unit others more → AreCornersOf unit (polygons ++ others) (found ++ more)
corners_append unit [] others [] more h l = l
corners_append unit [] others (f ∷ found) more h l = absurd h
corners_append unit (t ∷ polygons) others [] more h l = absurd h
corners_append unit (t ∷ polygons) others (f ∷ found) more h l = (h.0, corners_append unit polygons others found more h.1 l)

pub known_parts : (xs ys vertices : List Coordinates) → AllKnown vertices (xs ++ ys) → AllKnown vertices xs × AllKnown vertices ys
known_parts [] ys vertices h = (tt, h)
known_parts (x ∷ xs) ys vertices h = let rest = known_parts xs ys vertices h.1 in ((h.0, rest.0), rest.1)

faces_kept : (faces : List (List Coordinates)) (vertices more : List Coordinates) → AllKnown vertices (joined faces) → map (map (vertex_number (with_points vertices more))) faces ≡ map (map (vertex_number vertices)) faces
faces_kept [] vertices more h = refl
faces_kept (f ∷ faces) vertices more h =
    let parts = known_parts f (joined faces) vertices h in
    ap₂ (λ (x : List ℕ) (l : List (List ℕ)). x ∷ l) (all_kept more vertices f parts.0).1 (faces_kept faces vertices more parts.1)

-- a polygon more
gathered_more : (unit : LengthUnit) (polygons : List Outline) (vertices : List Coordinates) (faces : List (List ℕ)) → AreGathered unit polygons vertices faces →
    (s : Outline) (new : List Coordinates) (face : List ℕ) → AddsFace unit s vertices new face → AreGathered unit (polygons ++ s ∷ []) new (faces ++ face ∷ [])
gathered_more unit polygons vertices faces h s new face a =
    let known : AllKnown vertices (joined (printed_corners h.found)) =
    subst (λ (v : List Coordinates). AllKnown v (joined (printed_corners h.found))) (sym h.vertices_are) (grown_knows (joined (printed_corners h.found)) []) in
    record {
      all_polygons = All-append IsPolygon polygons (s ∷ []) h.all_polygons (All-cons IsPolygon s [] a.polygon (All-nil IsPolygon));
      found = h.found ++ a.found ∷ [];
      corners = corners_append unit polygons (s ∷ []) h.found (a.found ∷ []) h.corners (a.corners, tt);
      vertices_are = a.grows ∙ ap (λ (v : List Coordinates). with_points v (from_least a.found)) h.vertices_are
          ∙ sym (with_points-append (joined (printed_corners h.found)) (from_least a.found) [])
          ∙ ap (λ (l : List Coordinates). with_points [] (joined (printed_corners h.found) ++ l)) (sym (append-nil (from_least a.found)))
          ∙ ap (with_points []) (sym (flat_map-append (λ corners. corners) (printed_corners h.found) (from_least a.found ∷ [])))
          ∙ ap (λ (l : List (List Coordinates)). with_points [] (joined l)) (sym (map-append from_least h.found (a.found ∷ [])));
      faces_are = ap₂ (λ (l : List (List ℕ)) (f : List ℕ). l ++ f ∷ [])
          (h.faces_are ∙ sym (faces_kept (printed_corners h.found) vertices (from_least a.found) known) ∙ ap (λ (v : List Coordinates). map (map (vertex_number v)) (printed_corners h.found)) (sym a.grows)) a.numbers
          ∙ sym (map-append (map (vertex_number new)) (printed_corners h.found) (from_least a.found ∷ []))
          ∙ ap (map (map (vertex_number new))) (sym (map-append from_least h.found (a.found ∷ [])));
    }

pub gathered_all : (unit : LengthUnit) (polygons : List Outline) (vertices : List Coordinates) (faces : List (List ℕ)) → AreGathered unit polygons vertices faces → AreNumberedFaces unit polygons vertices faces
gathered_all unit polygons vertices faces h =
    let e : vertices ≡ vertices_of h.found = h.vertices_are ∙ grown_from_none (joined (printed_corners h.found)) in
    record {
      all_polygons = h.all_polygons;
      found = h.found;
      corners = h.corners;
      vertices_are = e;
      faces_are = h.faces_are ∙ ap (λ (v : List Coordinates). map (map (vertex_number v)) (printed_corners h.found)) e;
    }

-- a polygon more of a list
pub gathered_next : (unit : LengthUnit) (polygons : List Outline) (i : ℕ) (s : Outline) → i < length polygons → s ≡ get_or polygons i s →
    (vertices : List Coordinates) (faces : List (List ℕ)) → AreGathered unit (take i polygons) vertices faces →
    (new : List Coordinates) (face : List ℕ) (all : List (List ℕ)) → AddsFace unit s vertices new face → all ≡ faces ++ face ∷ [] → AreGathered unit (take (i + 1) polygons) new all
gathered_next unit polygons i s h is vertices faces g new face all a e =
    let more : take i polygons ++ s ∷ [] ≡ take (i + 1) polygons =
    ap (λ (t : Outline). take i polygons ++ t ∷ []) is ∙ sym (take-suc polygons i s h) ∙ ap (λ (n : ℕ). take n polygons) (sym (add-one i)) in
    subst₂ (λ (ps : List Outline) (fs : List (List ℕ)). AreGathered unit ps new fs) more (sym e)
    (gathered_more unit (take i polygons) vertices faces g s new face a)

pub gathered_end : (unit : LengthUnit) (polygons : List Outline) (i : ℕ) (vertices : List Coordinates) (faces : List (List ℕ)) → length polygons ≤ i → AreGathered unit (take i polygons) vertices faces → AreNumberedFaces unit polygons vertices faces
gathered_end unit polygons i vertices faces h g =
    gathered_all unit polygons vertices faces (subst (λ (ps : List Outline). AreGathered unit ps vertices faces) (take_all i polygons h) g)
