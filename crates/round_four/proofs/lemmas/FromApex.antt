-- The faces of a cylinder from an apex up to a circle.
use Rattle.std.proofs.Common.{◌≡◌, ℕ, ◌<◌, List, [], ◌∷◌, ◌++◌, map, All, arith, ℤ, pos, negsuc, neg_ℤ, ◌+ℤ◌, ◌<ℤ◌}
use Rattle.std.proofs.lemmas.List.Elements.{All-from_recursion}
use Rattle.plane_predicate.specs.Space.{point_at}
use Rattle.plane_predicate.proofs.lemmas.IntegerRing.{sums}
use Rattle.primitives.specs.Shapes.{Mesh, value_at_point, IsFaceOfShape}
use Rattle.primitives.specs.Prisms.{at_height}
use Rattle.round_four.specs.Circles.{circle_points}
use Rattle.round_four.specs.Cylinders.{faces_from_apex}
use Rattle.primitives.proofs.lemmas.Bodies.{outside_is_face, IsOutside}
use Rattle.round_four.proofs.Corners.{apex_at, apex_on, back_on, front_on, left_far, left_on, minus_sign, plus_sign, right_far, right_on, IsCorner}
use Rattle.round_four.proofs.Sides.{four, high_apart, high_behind, high_on, low_on, side_is_outside, side_plane, three}
use Rattle.round_four.proofs.EndFaces.{behind_high, circle_apart, high_is_outside, high_plane, on_high}

-- an apex at the height l, and the circle with the radius b at the height h
abbrev pub from_apex : ℤ → ℤ → ℤ → Mesh
from_apex b l h = record { points = apex_at l ++ map (at_height h) (circle_points b); faces = faces_from_apex }

first_side : (b l k : ℤ) → pos 0 <ℤ b → pos 0 <ℤ k → All (λ (p : List ℤ). IsCorner (pos 0) b l (l +ℤ k) (point_at p)) (from_apex b l (l +ℤ k)).points → IsOutside (from_apex b l (l +ℤ k)) (0 ∷ 2 ∷ 1 ∷ [])
first_side b l k hb hk all =
    let s = pos 1 in let t = pos 1 in let mesh = from_apex b l (l +ℤ k) in let P : ℕ → Type 0 = λ i. i < 5 in
    let On : ℕ → Type 0 = λ i. value_at_point mesh.points (side_plane s t (pos 0) b l k) i ≡ pos 0 in
    side_is_outside mesh (0 ∷ 2 ∷ 1 ∷ []) s t (pos 0) b l k plus_sign plus_sign hk all (record {
      there = three P 0 2 1 (omega arith) (omega arith) (omega arith);
      triangle = record { first = 1; second = 2; third = 0; first_in = omega arith; second_in = omega arith; third_in = omega arith; apart = high_apart (pos 0) b b (pos 0) (pos 0) (pos 0) l k (λ e. omega (arith, sums, e, hb)) hk };
      on = three On 0 2 1 (low_on s t (pos 0) b l k (pos 0) (pos 0) (apex_on s t)) (high_on s t (pos 0) b l k (pos 0) b (back_on s b)) (high_on s t (pos 0) b l k b (pos 0) (right_on t b));
      far = record { at_face = 4; at = 2; at_face_in = omega arith; at_in = omega arith; behind = high_behind s t (pos 0) b l k (neg_ℤ b) (pos 0) hk hb (left_far t b) };
    })

second_side : (b l k : ℤ) → pos 0 <ℤ b → pos 0 <ℤ k → All (λ (p : List ℤ). IsCorner (pos 0) b l (l +ℤ k) (point_at p)) (from_apex b l (l +ℤ k)).points → IsOutside (from_apex b l (l +ℤ k)) (0 ∷ 3 ∷ 2 ∷ [])
second_side b l k hb hk all =
    let s = negsuc 0 in let t = pos 1 in let mesh = from_apex b l (l +ℤ k) in let P : ℕ → Type 0 = λ i. i < 5 in
    let On : ℕ → Type 0 = λ i. value_at_point mesh.points (side_plane s t (pos 0) b l k) i ≡ pos 0 in
    side_is_outside mesh (0 ∷ 3 ∷ 2 ∷ []) s t (pos 0) b l k minus_sign plus_sign hk all (record {
      there = three P 0 3 2 (omega arith) (omega arith) (omega arith);
      triangle = record { first = 1; second = 2; third = 0; first_in = omega arith; second_in = omega arith; third_in = omega arith; apart = high_apart (neg_ℤ b) (pos 0) (pos 0) b (pos 0) (pos 0) l k (λ e. omega (arith, sums, e, hb)) hk };
      on = three On 0 3 2 (low_on s t (pos 0) b l k (pos 0) (pos 0) (apex_on s t)) (high_on s t (pos 0) b l k (neg_ℤ b) (pos 0) (left_on t b)) (high_on s t (pos 0) b l k (pos 0) b (back_on s b));
      far = record { at_face = 4; at = 0; at_face_in = omega arith; at_in = omega arith; behind = high_behind s t (pos 0) b l k b (pos 0) hk hb (right_far t b) };
    })

third_side : (b l k : ℤ) → pos 0 <ℤ b → pos 0 <ℤ k → All (λ (p : List ℤ). IsCorner (pos 0) b l (l +ℤ k) (point_at p)) (from_apex b l (l +ℤ k)).points → IsOutside (from_apex b l (l +ℤ k)) (0 ∷ 4 ∷ 3 ∷ [])
third_side b l k hb hk all =
    let s = negsuc 0 in let t = negsuc 0 in let mesh = from_apex b l (l +ℤ k) in let P : ℕ → Type 0 = λ i. i < 5 in
    let On : ℕ → Type 0 = λ i. value_at_point mesh.points (side_plane s t (pos 0) b l k) i ≡ pos 0 in
    side_is_outside mesh (0 ∷ 4 ∷ 3 ∷ []) s t (pos 0) b l k minus_sign minus_sign hk all (record {
      there = three P 0 4 3 (omega arith) (omega arith) (omega arith);
      triangle = record { first = 1; second = 2; third = 0; first_in = omega arith; second_in = omega arith; third_in = omega arith; apart = high_apart (pos 0) (neg_ℤ b) (neg_ℤ b) (pos 0) (pos 0) (pos 0) l k (λ e. omega (arith, sums, e, hb)) hk };
      on = three On 0 4 3 (low_on s t (pos 0) b l k (pos 0) (pos 0) (apex_on s t)) (high_on s t (pos 0) b l k (pos 0) (neg_ℤ b) (front_on s b)) (high_on s t (pos 0) b l k (neg_ℤ b) (pos 0) (left_on t b));
      far = record { at_face = 4; at = 0; at_face_in = omega arith; at_in = omega arith; behind = high_behind s t (pos 0) b l k b (pos 0) hk hb (right_far t b) };
    })

fourth_side : (b l k : ℤ) → pos 0 <ℤ b → pos 0 <ℤ k → All (λ (p : List ℤ). IsCorner (pos 0) b l (l +ℤ k) (point_at p)) (from_apex b l (l +ℤ k)).points → IsOutside (from_apex b l (l +ℤ k)) (0 ∷ 1 ∷ 4 ∷ [])
fourth_side b l k hb hk all =
    let s = pos 1 in let t = negsuc 0 in let mesh = from_apex b l (l +ℤ k) in let P : ℕ → Type 0 = λ i. i < 5 in
    let On : ℕ → Type 0 = λ i. value_at_point mesh.points (side_plane s t (pos 0) b l k) i ≡ pos 0 in
    side_is_outside mesh (0 ∷ 1 ∷ 4 ∷ []) s t (pos 0) b l k plus_sign minus_sign hk all (record {
      there = three P 0 1 4 (omega arith) (omega arith) (omega arith);
      triangle = record { first = 1; second = 2; third = 0; first_in = omega arith; second_in = omega arith; third_in = omega arith; apart = high_apart b (pos 0) (pos 0) (neg_ℤ b) (pos 0) (pos 0) l k (λ e. omega (arith, sums, e, hb)) hk };
      on = three On 0 1 4 (low_on s t (pos 0) b l k (pos 0) (pos 0) (apex_on s t)) (high_on s t (pos 0) b l k b (pos 0) (right_on t b)) (high_on s t (pos 0) b l k (pos 0) (neg_ℤ b) (front_on s b));
      far = record { at_face = 4; at = 2; at_face_in = omega arith; at_in = omega arith; behind = high_behind s t (pos 0) b l k (neg_ℤ b) (pos 0) hk hb (left_far t b) };
    })

high_end : (b l k : ℤ) → pos 0 <ℤ b → pos 0 <ℤ k → All (λ (p : List ℤ). IsCorner (pos 0) b l (l +ℤ k) (point_at p)) (from_apex b l (l +ℤ k)).points → IsOutside (from_apex b l (l +ℤ k)) (1 ∷ 2 ∷ 3 ∷ 4 ∷ [])
high_end b l k hb hk all =
    let mesh = from_apex b l (l +ℤ k) in let P : ℕ → Type 0 = λ i. i < 5 in
    let On : ℕ → Type 0 = λ i. value_at_point mesh.points (high_plane (l +ℤ k)) i ≡ pos 0 in
    high_is_outside mesh (1 ∷ 2 ∷ 3 ∷ 4 ∷ []) (pos 0) b l k hk all (record {
      there = four P 1 2 3 4 (omega arith) (omega arith) (omega arith) (omega arith);
      triangle = record { first = 0; second = 1; third = 2; first_in = omega arith; second_in = omega arith; third_in = omega arith; apart = circle_apart b (l +ℤ k) hb };
      on = four On 1 2 3 4 (on_high (l +ℤ k) b (pos 0)) (on_high (l +ℤ k) (pos 0) b) (on_high (l +ℤ k) (neg_ℤ b) (pos 0)) (on_high (l +ℤ k) (pos 0) (neg_ℤ b));
      far = record { at_face = 0; at = 0; at_face_in = omega arith; at_in = omega arith; behind = behind_high l k (pos 0) (pos 0) hk };
    })

from_apex_there : All (λ (f : List ℕ). All (λ (i : ℕ). i < 5) f) faces_from_apex
from_apex_there =
    let P : ℕ → Type 0 = λ i. i < 5 in
    All-from_recursion (λ (f : List ℕ). All P f) faces_from_apex (
      three P 0 2 1 (omega arith) (omega arith) (omega arith),
      (
        three P 0 3 2 (omega arith) (omega arith) (omega arith),
        (
          three P 0 4 3 (omega arith) (omega arith) (omega arith),
          (
            three P 0 1 4 (omega arith) (omega arith) (omega arith),
            (
              four P 1 2 3 4 (omega arith) (omega arith) (omega arith) (omega arith),
              tt,
            ),
          ),
        ),
      ),
    )

pub from_apex_faces : (b l k : ℤ) → pos 0 <ℤ b → pos 0 <ℤ k → All (λ (p : List ℤ). IsCorner (pos 0) b l (l +ℤ k) (point_at p)) (from_apex b l (l +ℤ k)).points → All (IsFaceOfShape (from_apex b l (l +ℤ k))) faces_from_apex
from_apex_faces b l k hb hk all =
    let mesh = from_apex b l (l +ℤ k) in
    let face : (f : List ℕ) → IsOutside mesh f → IsFaceOfShape mesh f = outside_is_face mesh from_apex_there in
    All-from_recursion (IsFaceOfShape mesh) faces_from_apex (
      face (0 ∷ 2 ∷ 1 ∷ []) (first_side b l k hb hk all),
      (
        face (0 ∷ 3 ∷ 2 ∷ []) (second_side b l k hb hk all),
        (
          face (0 ∷ 4 ∷ 3 ∷ []) (third_side b l k hb hk all),
          (
            face (0 ∷ 1 ∷ 4 ∷ []) (fourth_side b l k hb hk all),
            (
              face (1 ∷ 2 ∷ 3 ∷ 4 ∷ []) (high_end b l k hb hk all),
              tt,
            ),
          ),
        ),
      ),
    )
