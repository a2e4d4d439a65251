-- Polygons have no more vertices than corners.
use Rattle.std.proofs.Common.{◌≡◌, ◌≤◌, Bool, true, false, cond, not, List, [], ◌∷◌, flat_map, filter, take, drop, length, refl, ap, arith}
use Rattle.std.proofs.lemmas.List.{length-append, take-append-drop}
use Rattle.plane_predicate.specs.declared.unit.Unit.{Unit as LengthUnit}
use Rattle.plane_predicate.specs.Space.{Coordinates, has_same_numbers}
use Rattle.plane_polygon.specs.Polygons.{Outline}
use Rattle.off_text.specs.Texts.{place_of_least, from_least, distinct_points, printed_corners, vertices_of, corner_count, AreCornersOf}
use Rattle.off_text.proofs.Cornered.{found-length}

kept_once : {X : Type 0} (b : Bool) (x : X) (xs ys : List X) → length xs ≤ length ys →
    length (cond b (x ∷ xs) xs) ≤ length (x ∷ ys)
kept_once true x xs ys h = omega (arith, h)
kept_once false x xs ys h = omega (arith, h)

kept_length : {X : Type 0} (p : X → Bool) (xs : List X) → length (filter p xs) ≤ length xs
kept_length p [] = omega arith
kept_length p (x ∷ xs) = kept_once (p x) x (filter p xs) xs (kept_length p xs)

distinct_length : (points : List Coordinates) → length (distinct_points points) ≤ length points
distinct_length [] = omega arith
distinct_length (p ∷ points) =
    omega (arith, kept_length (λ q. not (has_same_numbers p q)) (distinct_points points), distinct_length points)

turned_length : (points : List Coordinates) → length (from_least points) ≡ length points
turned_length points =
    let n = place_of_least points in
    let turned = length-append (drop n points) (take n points) in
    let whole = length-append (take n points) (drop n points) in
    omega (arith, turned, whole, ap length (take-append-drop n points))

printed_length : (unit : LengthUnit) (polygons : List Outline) (faces : List (List Coordinates)) → AreCornersOf unit polygons faces →
    length (flat_map (λ corners. corners) (printed_corners faces)) ≡ corner_count polygons
printed_length unit [] [] h = refl
printed_length unit [] (found ∷ faces) h = absurd h
printed_length unit (s ∷ polygons) [] h = absurd h
printed_length unit (s ∷ polygons) (found ∷ faces) h =
    let both = length-append (from_least found) (flat_map (λ corners. corners) (printed_corners faces)) in
    omega (arith, both, turned_length found, found-length unit s found h.0, printed_length unit polygons faces h.1)

pub few_vertices : (unit : LengthUnit) (polygons : List Outline) (faces : List (List Coordinates)) → AreCornersOf unit polygons faces →
    length (vertices_of faces) ≤ corner_count polygons
few_vertices unit polygons faces h =
    let once = distinct_length (flat_map (λ corners. corners) (printed_corners faces)) in
    omega (arith, once, printed_length unit polygons faces h)
