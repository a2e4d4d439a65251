-- Each corner of an extrusion is a corner of one of its ends, so that no plane of a face has it ahead.
use Rattle.std.proofs.Common.{◌≡◌, ℕ, ◌+◌, ◌<◌, List, [], length, get_or, sym, ap, subst, ◌∙◌, All, arith, ℤ, pos, ◌≤ℤ◌}
use Rattle.std.proofs.lemmas.List.{get_or_default, length-map}
use Rattle.std.proofs.lemmas.List.FromFn.{get_or-range_with_len, length-range_with_len}
use Rattle.plane_predicate.specs.Space.{Coefficients, point_at, value}
use Rattle.int_transform.specs.declared.affine.Affine.{Affine}
use Rattle.int_transform.specs.Maps.{coordinate_list, image}
use Rattle.primitives.specs.Shapes.{Mesh, value_at_point, IsPlaneOfFace}
use Rattle.primitives.specs.Placing.{moved_mesh, ArePlanesOf}
use Rattle.primitives.proofs.lemmas.Distinct.{all_of_distinct}
use Rattle.primitives.proofs.lemmas.Lists.{zip_second}
use Rattle.primitives.specs.Prisms.{prism_faces, prism_of, prism_points, sides_over, AreBehindOrOn}
use Rattle.primitives.proofs.lemmas.PrismLists.{each_corner, high_face, length_faces, length_points, low_face}

abbrev AreBehind : Mesh → Coefficients → Type 0
AreBehind mesh m = All (λ (p : List ℤ). value m (point_at p) ≤ℤ pos 0) mesh.points

abbrev IsAtMost : Mesh → Coefficients → ℕ → Type 0
IsAtMost mesh m i = value_at_point mesh.points m i ≤ℤ pos 0

-- the corners of the ends, which are faces
low_most : (f : Affine) (points : List (List ℤ)) (low high : ℤ) (face : List ℕ) (m : Coefficients) → IsPlaneOfFace (moved_mesh f (prism_of points low high)) face m → (i : ℕ) → i < length points → IsAtMost (moved_mesh f (prism_of points low high)) m i
low_most f points low high face m is i lt =
    let n = length points in
    let e : 0 + i ≡ i = omega arith in
    let at : get_or (get_or (prism_faces points) (length (sides_over points n) + 0) []) i 0 ≡ i =
    ap (λ (g : List ℕ). get_or g i 0) (low_face points) ∙ get_or-range_with_len 0 n i 0 lt ∙ e in
    let within : i < length (get_or (prism_faces points) (length (sides_over points n) + 0) []) =
    subst (λ (g : List ℕ). i < length g) (sym (low_face points)) (omega (arith, lt, length-range_with_len 0 n)) in
    subst (IsAtMost (moved_mesh f (prism_of points low high)) m) at
    (is.none_ahead (length (sides_over points n) + 0) [] (omega (arith, length_faces points)) i 0 within)

high_most : (f : Affine) (points : List (List ℤ)) (low high : ℤ) (face : List ℕ) (m : Coefficients) → IsPlaneOfFace (moved_mesh f (prism_of points low high)) face m → (i : ℕ) → i < length points → IsAtMost (moved_mesh f (prism_of points low high)) m (length points + i)
high_most f points low high face m is i lt =
    let n = length points in
    let at : get_or (get_or (prism_faces points) (length (sides_over points n) + 1) []) i 0 ≡ n + i =
    ap (λ (g : List ℕ). get_or g i 0) (high_face points) ∙ get_or-range_with_len n n i 0 lt in
    let within : i < length (get_or (prism_faces points) (length (sides_over points n) + 1) []) =
    subst (λ (g : List ℕ). i < length g) (sym (high_face points)) (omega (arith, lt, length-range_with_len n n)) in
    subst (IsAtMost (moved_mesh f (prism_of points low high)) m) at
    (is.none_ahead (length (sides_over points n) + 1) [] (omega (arith, length_faces points)) i 0 within)

each_behind : (f : Affine) (points : List (List ℤ)) (low high : ℤ) (face : List ℕ) (m : Coefficients) → IsPlaneOfFace (moved_mesh f (prism_of points low high)) face m → AreBehind (moved_mesh f (prism_of points low high)) m
each_behind f points low high face m is =
    let n = length points in
    let mesh = moved_mesh f (prism_of points low high) in
    let count : length mesh.points ≡ n + n =
    length-map (prism_points points low high) (λ (p : List ℤ). coordinate_list (image f (point_at p))) ∙ length_points points low high in
    λ k d lt. subst (λ (p : List ℤ). value m (point_at p) ≤ℤ pos 0) (get_or_default mesh.points k [] d lt)
    (each_corner (IsAtMost mesh m) n (low_most f points low high face m is) (high_most f points low high face m is) k (omega (arith, lt, count)))

pub prism_behind : (f : Affine) (points : List (List ℤ)) (low high : ℤ) (planes : List Coefficients) → ArePlanesOf (moved_mesh f (prism_of points low high)) (prism_faces points) planes → AreBehindOrOn (moved_mesh f (prism_of points low high)).points planes
prism_behind f points low high planes are =
    let mesh = moved_mesh f (prism_of points low high) in
    let each : All (AreBehind mesh) are.all = zip_second (IsPlaneOfFace mesh) (λ (face : List ℕ). Unit) (AreBehind mesh) (λ face m is t. each_behind f points low high face m is) mesh.faces are.all are.each (λ k d lt. tt) in
    subst (All (AreBehind mesh)) (sym are.first) (all_of_distinct (AreBehind mesh) are.all each)
