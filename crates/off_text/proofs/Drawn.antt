-- The faces of a text are the polygons.
use Rattle.std.proofs.Common.{◌≡◌, ◌≢◌, ℕ, zero, suc, ◌<◌, ◌≤◌, not, List, filter, [], ◌∷◌, map, length, get_or, refl, sym, ap, ap₂, ◌∙◌, subst, arith, All, pos, ◌<ℤ◌}
use Rattle.std.proofs.lemmas.List.{length-map}
use Rattle.std.proofs.lemmas.List.Elements.{All-append, All-filter, All-map, All-from_get_or}
use Rattle.plane_predicate.specs.declared.unit.Unit.{Unit as LengthUnit}
use Rattle.plane_predicate.specs.Space.{Coefficients, Coordinates, value, orientation_seen_from, IsPlane, IsPointTimes, origin, has_same_numbers}
use Rattle.plane_predicate.specs.InUnits.{in_steps, in_units}
use Rattle.plane_polygon.specs.Polygons.{Outline, edge_count, IsPolygon, IsStrictlyWithin, corner as corner_of}
use Rattle.plane_polygon.proofs.lemmas.Rounds.{step, step_below}
use Rattle.plane_polygon.specs.Parts.{corners}
use Rattle.closed_surface.specs.Closed.{corners_at}
use Rattle.closed_surface.specs.Printing.{IsRoundOf}
use Rattle.off_text.specs.Reading.{IsPrintedVertex, IsPrintedFace, off_text}
use Rattle.off_text.specs.Boundaries.{face_corner, grid_corner, FacesPlane, FaceCovers}
use Rattle.off_text.specs.Texts.{distinct_points, vertex_number, from_least, printed_corners, vertices_of, numbered_faces, AreCornersOf, IsTextOf}
use Rattle.off_text.specs.Numbering.{AreNumberedFaces}
use Rattle.off_text.specs.Prints.{IsPrintedFaceOf, ArePrintedFacesOf, Prints}
use Rattle.off_text.proofs.Numbers.{Known, AllKnown, place_below, known_at, grown_knows}
use Rattle.off_text.proofs.Distinct.{grown_from_none}
use Rattle.off_text.proofs.Gathered.{joined, known_parts}
use Rattle.off_text.proofs.OwnVertices.{own_vertices}
use Rattle.off_text.proofs.lemmas.Scaled.{AreOnePoint, printed_is}
use Rattle.off_text.proofs.Cornered.{ArePrinted, printed, found_are_vertices, All-from_least}
use Rattle.off_text.proofs.lemmas.Rounded.{points_on, points_left, left_from_within, within_from_left, one_plane, below_three, not_two}
use Rattle.plane_predicate.specs.Indices.{index_after}

-- ---- what holds of all items
none_all : {X : Type 0} (P : X → Type 0) → All P []
none_all P k d l = absurd (omega arith)

more_all : {X : Type 0} (P : X → Type 0) (x : X) (xs : List X) → P x → All P xs → All P (x ∷ xs)
more_all P x xs h hs zero d l = h
more_all P x xs h hs (suc k) d l = hs k d (omega arith)

pub first_of : {X : Type 0} (P : X → Type 0) (x : X) (xs : List X) → All P (x ∷ xs) → P x
first_of P x xs h = h 0 x (omega arith)

pub rest_of : {X : Type 0} (P : X → Type 0) (x : X) (xs : List X) → All P (x ∷ xs) → All P xs
rest_of P x xs h k d l = h (suc k) d (omega arith)

-- ---- numbered points
all-known-at : (vertices points : List Coordinates) → AllKnown vertices points → (i : ℕ) → i < length points → Known vertices (get_or points i origin)
all-known-at vertices [] h i l = absurd (omega arith)
all-known-at vertices (p ∷ points) h zero l = h.0
all-known-at vertices (p ∷ points) h (suc i) l = all-known-at vertices points h.1 i (omega arith)

-- a printed corner is the point that is numbered so
corner-at : (vertices points : List Coordinates) → AllKnown vertices points → (i : ℕ) → i < length points → face_corner vertices (map (vertex_number vertices) points) i ≡ get_or points i origin
corner-at vertices [] h i l = absurd (omega arith)
corner-at vertices (p ∷ points) h zero l = known_at vertices p h.0
corner-at vertices (p ∷ points) h (suc i) l = corner-at vertices points h.1 i (omega arith)

-- all corners of a printed face
corners-are : (vertices points : List Coordinates) → AllKnown vertices points → corners_at vertices (map (vertex_number vertices) points) ≡ points
corners-are vertices [] h = refl
corners-are vertices (p ∷ points) h = ap₂ (λ (q : Coordinates) (qs : List Coordinates). q ∷ qs) (known_at vertices p h.0) (corners-are vertices points h.1)

-- ---- one face
module _ (unit : LengthUnit) (s : Outline) (polygon : IsPolygon s) (vertices points : List Coordinates) (printed : ArePrinted unit s points) (known : AllKnown vertices points) where
  abbrev pub face : List ℕ
  face = map (vertex_number vertices) points

  count : length face ≡ edge_count s
  count = length-map points (vertex_number vertices) ∙ printed.count

  times : (i : ℕ) → i < edge_count s → IsPointTimes (in_units unit (corner_of s (step (edge_count s) printed.start i))) (face_corner vertices face i)
  times i l = subst (λ (q : Coordinates). IsPointTimes (in_units unit (corner_of s (step (edge_count s) printed.start i))) q)
      (sym (corner-at vertices points known i (omega (arith, printed.count, l)))) (printed.at i l)

  abbrev on_grid : ℕ → Coordinates
  on_grid i = grid_corner unit vertices face i

  is : (i : ℕ) → i < edge_count s → AreOnePoint (corner_of s (step (edge_count s) printed.start i)) (on_grid i)
  is i l = printed_is unit (corner_of s (step (edge_count s) printed.start i)) (face_corner vertices face i) (times i l)

  facing : FacesPlane unit vertices s.plane face
  facing = record {
    on = subst (λ (k : ℕ). (i : ℕ) → i < k → value s.plane (on_grid i) ≡ pos 0) (sym count)
        (points_on s polygon printed.start printed.starts on_grid is);
    left = subst (λ (k : ℕ). (i j : ℕ) → i < k → j < k → j ≢ i → j ≢ index_after k i → pos 0 <ℤ orientation_seen_from s.plane (on_grid i) (on_grid (index_after k i)) (on_grid j)) (sym count)
        (points_left s polygon printed.start printed.starts on_grid is);
  }

  covering-in : (p : Coordinates) → IsStrictlyWithin s (in_steps unit p) → FaceCovers unit vertices s.plane p face
  covering-in p w = record {
    faces = facing;
    on = w.on;
    left = subst (λ (k : ℕ). (i : ℕ) → i < k → pos 0 <ℤ orientation_seen_from s.plane (on_grid i) (on_grid (index_after k i)) (in_steps unit p)) (sym count)
        (left_from_within s polygon printed.start printed.starts on_grid is (in_steps unit p) w);
  }

  covering-out : (p : Coordinates) → FaceCovers unit vertices s.plane p face → IsStrictlyWithin s (in_steps unit p)
  covering-out p c =
      within_from_left s polygon printed.start printed.starts on_grid is (in_steps unit p) c.on
      (subst (λ (k : ℕ). (i : ℕ) → i < k → pos 0 <ℤ orientation_seen_from s.plane (on_grid i) (on_grid (index_after k i)) (in_steps unit p)) count c.left)

  faced_plane : (n : Coefficients) → IsPlane s.plane → IsPlane n → FacesPlane unit vertices n face → s.plane ≡ n
  faced_plane n hs hn f =
      let left = subst (λ (k : ℕ). (i j : ℕ) → i < k → j < k → j ≢ i → j ≢ index_after k i → pos 0 <ℤ orientation_seen_from n (on_grid i) (on_grid (index_after k i)) (on_grid j)) count f.left in
      one_plane s polygon printed.start printed.starts on_grid is n hs hn
      (subst (λ (k : ℕ). (i : ℕ) → i < k → value n (on_grid i) ≡ pos 0) count f.on)
      (left 0 2 (below_three 0 (edge_count s) polygon.three (omega arith)) (below_three 2 (edge_count s) polygon.three (omega arith)) (omega arith) (not_two (edge_count s) polygon.three))

  pub drawn : IsPrintedFaceOf unit vertices s face
  drawn = record {
    corners = λ i l. (let b : i < edge_count s = omega (arith, count, l) in
        record { place = step (edge_count s) printed.start i; within = step_below (edge_count s) printed.start i printed.starts; times = times i b });
    round = subst (IsRoundOf unit (corners s)) (sym (corners-are vertices points known)) printed.round;
    facing = facing;
    covering = λ n p hs hn. (
      (λ c. let e = faced_plane n hs hn c.faces in (e, covering-out p (subst (λ (m : Coefficients). FaceCovers unit vertices m p face) (sym e) c))),
      (λ w. subst (λ (m : Coefficients). FaceCovers unit vertices m p face) w.0 (covering-in p w.1)),
    );
  }

  known_indices : All (λ i. i < length vertices) face
  known_indices = All-map (λ (i : ℕ). i < length vertices) (vertex_number vertices) points
      (All-from_get_or (λ (p : Coordinates). vertex_number vertices p < length vertices) points origin (λ i l. place_below (has_same_numbers (get_or points i origin)) vertices (all-known-at vertices points known i l)))

  pub is_face : IsPrintedFace (length vertices) face
  is_face = record { three = subst (λ (k : ℕ). 3 ≤ k) (sym count) polygon.three; known = known_indices }

-- ---- all faces
faces_drawn : (unit : LengthUnit) (polygons : List Outline) (found : List (List Coordinates)) (vertices : List Coordinates) → All IsPolygon polygons → AreCornersOf unit polygons found →
    AllKnown vertices (joined (printed_corners found)) →
    ArePrintedFacesOf unit vertices polygons (map (map (vertex_number vertices)) (printed_corners found)) × All (IsPrintedFace (length vertices)) (map (map (vertex_number vertices)) (printed_corners found))
faces_drawn unit [] [] vertices h c k = (tt, none_all (IsPrintedFace (length vertices)))
faces_drawn unit [] (f ∷ found) vertices h c k = absurd c
faces_drawn unit (s ∷ polygons) [] vertices h c k = absurd c
faces_drawn unit (s ∷ polygons) (f ∷ found) vertices h c k =
    let parts = known_parts (from_least f) (joined (printed_corners found)) vertices k in
    let polygon = first_of IsPolygon s polygons h in
    let points = printed unit s f polygon c.0 in
    let rest = faces_drawn unit polygons found vertices (rest_of IsPolygon s polygons h) c.1 parts.1 in (
      (drawn unit s polygon vertices (from_least f) points parts.0, rest.0),
      more_all (IsPrintedFace (length vertices)) (map (vertex_number vertices) (from_least f)) (map (map (vertex_number vertices)) (printed_corners found)) (is_face unit s polygon vertices (from_least f) points parts.0) rest.1,
    )

-- ---- all vertices
distinct_all : (points : List Coordinates) → All IsPrintedVertex points → All IsPrintedVertex (distinct_points points)
distinct_all [] h = h
distinct_all (p ∷ points) h =
    more_all IsPrintedVertex p (filter (λ q. not (has_same_numbers p q)) (distinct_points points)) (first_of IsPrintedVertex p points h)
    (All-filter (λ q. not (has_same_numbers p q)) IsPrintedVertex (distinct_points points) (distinct_all points (rest_of IsPrintedVertex p points h)))

joined_all : (unit : LengthUnit) (polygons : List Outline) (found : List (List Coordinates)) → All IsPolygon polygons → AreCornersOf unit polygons found → All IsPrintedVertex (joined (printed_corners found))
joined_all unit [] [] h c = none_all IsPrintedVertex
joined_all unit [] (f ∷ found) h c = absurd c
joined_all unit (s ∷ polygons) [] h c = absurd c
joined_all unit (s ∷ polygons) (f ∷ found) h c =
    All-append IsPrintedVertex (from_least f) (joined (printed_corners found)) (All-from_least IsPrintedVertex f (found_are_vertices unit s f c.0 (first_of IsPolygon s polygons h)))
    (joined_all unit polygons found (rest_of IsPolygon s polygons h) c.1)

all_are_known : (found : List (List Coordinates)) → AllKnown (vertices_of found) (joined (printed_corners found))
all_are_known found =
    subst (λ (v : List Coordinates). AllKnown v (joined (printed_corners found))) (grown_from_none (joined (printed_corners found))) (grown_knows (joined (printed_corners found)) [])

pub prints : (unit : LengthUnit) (polygons : List Outline) (vertices : List Coordinates) (faces : List (List ℕ)) (bytes : List ℕ) → AreNumberedFaces unit polygons vertices faces → bytes ≡ off_text vertices faces → Prints unit polygons bytes
prints unit polygons vertices faces bytes h e =
    let all = faces_drawn unit polygons h.found (vertices_of h.found) h.all_polygons h.corners (all_are_known h.found) in
    let points = distinct_all (joined (printed_corners h.found)) (joined_all unit polygons h.found h.all_polygons h.corners) in
    record {
      vertices = vertices_of h.found;
      faces = numbered_faces h.found;
      read = record {
        spelled = e ∙ ap (λ (v : List Coordinates). off_text v faces) h.vertices_are ∙ ap (off_text (vertices_of h.found)) h.faces_are;
        points = points;
        loops = all.1;
      };
      own_vertices = own_vertices h.found points;
      drawn = all.0;
    }

-- the text of polygons is read back as the polygons
pub text_prints : (unit : LengthUnit) (polygons : List Outline) (bytes : List ℕ) → All IsPolygon polygons → IsTextOf unit polygons bytes → Prints unit polygons bytes
text_prints unit polygons bytes all text =
    prints unit polygons (vertices_of text.faces) (numbered_faces text.faces) bytes
    (record { all_polygons = all; found = text.faces; corners = text.corners; vertices_are = refl; faces_are = refl }) text.spelled
