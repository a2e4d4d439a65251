-- The faces of a cylinder from a circle up to an apex.
use Rattle.std.proofs.Common.{◌≡◌, ℕ, ◌<◌, List, [], ◌∷◌, ◌++◌, map, All, arith, ℤ, pos, negsuc, neg_ℤ, ◌+ℤ◌, ◌<ℤ◌}
use Rattle.std.proofs.lemmas.List.Elements.{All-from_recursion}
use Rattle.plane_predicate.specs.Space.{point_at}
use Rattle.plane_predicate.proofs.lemmas.IntegerRing.{sums}
use Rattle.primitives.specs.Shapes.{Mesh, value_at_point, IsFaceOfShape}
use Rattle.primitives.specs.Prisms.{at_height}
use Rattle.round_four.specs.Circles.{circle_points}
use Rattle.round_four.specs.Cylinders.{faces_to_apex}
use Rattle.primitives.proofs.lemmas.Bodies.{outside_is_face, IsOutside}
use Rattle.round_four.proofs.Corners.{apex_at, apex_on, back_on, front_on, left_far, left_on, minus_sign, plus_sign, right_far, right_on, IsCorner}
use Rattle.round_four.proofs.Sides.{four, high_on, low_apart, low_behind, low_on, side_is_outside, side_plane, three}
use Rattle.round_four.proofs.EndFaces.{behind_low, circle_apart, low_is_outside, low_plane, on_low}

-- the circle with the radius a at the height l, and an apex at the height h
abbrev pub to_apex : ℤ → ℤ → ℤ → Mesh
to_apex a l h = record { points = map (at_height l) (circle_points a) ++ apex_at h; faces = faces_to_apex }

first_side : (a l k : ℤ) → pos 0 <ℤ a → pos 0 <ℤ k → All (λ (p : List ℤ). IsCorner a (pos 0) l (l +ℤ k) (point_at p)) (to_apex a l (l +ℤ k)).points → IsOutside (to_apex a l (l +ℤ k)) (0 ∷ 1 ∷ 4 ∷ [])
first_side a l k ha hk all =
    let s = pos 1 in let t = pos 1 in let mesh = to_apex a l (l +ℤ k) in let P : ℕ → Type 0 = λ i. i < 5 in
    let On : ℕ → Type 0 = λ i. value_at_point mesh.points (side_plane s t a (pos 0) l k) i ≡ pos 0 in
    side_is_outside mesh (0 ∷ 1 ∷ 4 ∷ []) s t a (pos 0) l k plus_sign plus_sign hk all (record {
      there = three P 0 1 4 (omega arith) (omega arith) (omega arith);
      triangle = record { first = 0; second = 1; third = 2; first_in = omega arith; second_in = omega arith; third_in = omega arith; apart = low_apart a (pos 0) (pos 0) a (pos 0) (pos 0) l k (λ e. omega (arith, sums, e, ha)) hk };
      on = three On 0 1 4 (low_on s t a (pos 0) l k a (pos 0) (right_on t a)) (low_on s t a (pos 0) l k (pos 0) a (back_on s a)) (high_on s t a (pos 0) l k (pos 0) (pos 0) (apex_on s t));
      far = record { at_face = 4; at = 2; at_face_in = omega arith; at_in = omega arith; behind = low_behind s t a (pos 0) l k (neg_ℤ a) (pos 0) hk ha (left_far t a) };
    })

second_side : (a l k : ℤ) → pos 0 <ℤ a → pos 0 <ℤ k → All (λ (p : List ℤ). IsCorner a (pos 0) l (l +ℤ k) (point_at p)) (to_apex a l (l +ℤ k)).points → IsOutside (to_apex a l (l +ℤ k)) (1 ∷ 2 ∷ 4 ∷ [])
second_side a l k ha hk all =
    let s = negsuc 0 in let t = pos 1 in let mesh = to_apex a l (l +ℤ k) in let P : ℕ → Type 0 = λ i. i < 5 in
    let On : ℕ → Type 0 = λ i. value_at_point mesh.points (side_plane s t a (pos 0) l k) i ≡ pos 0 in
    side_is_outside mesh (1 ∷ 2 ∷ 4 ∷ []) s t a (pos 0) l k minus_sign plus_sign hk all (record {
      there = three P 1 2 4 (omega arith) (omega arith) (omega arith);
      triangle = record { first = 0; second = 1; third = 2; first_in = omega arith; second_in = omega arith; third_in = omega arith; apart = low_apart (pos 0) a (neg_ℤ a) (pos 0) (pos 0) (pos 0) l k (λ e. omega (arith, sums, e, ha)) hk };
      on = three On 1 2 4 (low_on s t a (pos 0) l k (pos 0) a (back_on s a)) (low_on s t a (pos 0) l k (neg_ℤ a) (pos 0) (left_on t a)) (high_on s t a (pos 0) l k (pos 0) (pos 0) (apex_on s t));
      far = record { at_face = 4; at = 0; at_face_in = omega arith; at_in = omega arith; behind = low_behind s t a (pos 0) l k a (pos 0) hk ha (right_far t a) };
    })

third_side : (a l k : ℤ) → pos 0 <ℤ a → pos 0 <ℤ k → All (λ (p : List ℤ). IsCorner a (pos 0) l (l +ℤ k) (point_at p)) (to_apex a l (l +ℤ k)).points → IsOutside (to_apex a l (l +ℤ k)) (2 ∷ 3 ∷ 4 ∷ [])
third_side a l k ha hk all =
    let s = negsuc 0 in let t = negsuc 0 in let mesh = to_apex a l (l +ℤ k) in let P : ℕ → Type 0 = λ i. i < 5 in
    let On : ℕ → Type 0 = λ i. value_at_point mesh.points (side_plane s t a (pos 0) l k) i ≡ pos 0 in
    side_is_outside mesh (2 ∷ 3 ∷ 4 ∷ []) s t a (pos 0) l k minus_sign minus_sign hk all (record {
      there = three P 2 3 4 (omega arith) (omega arith) (omega arith);
      triangle = record { first = 0; second = 1; third = 2; first_in = omega arith; second_in = omega arith; third_in = omega arith; apart = low_apart (neg_ℤ a) (pos 0) (pos 0) (neg_ℤ a) (pos 0) (pos 0) l k (λ e. omega (arith, sums, e, ha)) hk };
      on = three On 2 3 4 (low_on s t a (pos 0) l k (neg_ℤ a) (pos 0) (left_on t a)) (low_on s t a (pos 0) l k (pos 0) (neg_ℤ a) (front_on s a)) (high_on s t a (pos 0) l k (pos 0) (pos 0) (apex_on s t));
      far = record { at_face = 4; at = 0; at_face_in = omega arith; at_in = omega arith; behind = low_behind s t a (pos 0) l k a (pos 0) hk ha (right_far t a) };
    })

fourth_side : (a l k : ℤ) → pos 0 <ℤ a → pos 0 <ℤ k → All (λ (p : List ℤ). IsCorner a (pos 0) l (l +ℤ k) (point_at p)) (to_apex a l (l +ℤ k)).points → IsOutside (to_apex a l (l +ℤ k)) (3 ∷ 0 ∷ 4 ∷ [])
fourth_side a l k ha hk all =
    let s = pos 1 in let t = negsuc 0 in let mesh = to_apex a l (l +ℤ k) in let P : ℕ → Type 0 = λ i. i < 5 in
    let On : ℕ → Type 0 = λ i. value_at_point mesh.points (side_plane s t a (pos 0) l k) i ≡ pos 0 in
    side_is_outside mesh (3 ∷ 0 ∷ 4 ∷ []) s t a (pos 0) l k plus_sign minus_sign hk all (record {
      there = three P 3 0 4 (omega arith) (omega arith) (omega arith);
      triangle = record { first = 0; second = 1; third = 2; first_in = omega arith; second_in = omega arith; third_in = omega arith; apart = low_apart (pos 0) (neg_ℤ a) a (pos 0) (pos 0) (pos 0) l k (λ e. omega (arith, sums, e, ha)) hk };
      on = three On 3 0 4 (low_on s t a (pos 0) l k (pos 0) (neg_ℤ a) (front_on s a)) (low_on s t a (pos 0) l k a (pos 0) (right_on t a)) (high_on s t a (pos 0) l k (pos 0) (pos 0) (apex_on s t));
      far = record { at_face = 4; at = 2; at_face_in = omega arith; at_in = omega arith; behind = low_behind s t a (pos 0) l k (neg_ℤ a) (pos 0) hk ha (left_far t a) };
    })

low_end : (a l k : ℤ) → pos 0 <ℤ a → pos 0 <ℤ k → All (λ (p : List ℤ). IsCorner a (pos 0) l (l +ℤ k) (point_at p)) (to_apex a l (l +ℤ k)).points → IsOutside (to_apex a l (l +ℤ k)) (0 ∷ 1 ∷ 2 ∷ 3 ∷ [])
low_end a l k ha hk all =
    let mesh = to_apex a l (l +ℤ k) in let P : ℕ → Type 0 = λ i. i < 5 in
    let On : ℕ → Type 0 = λ i. value_at_point mesh.points (low_plane l) i ≡ pos 0 in
    low_is_outside mesh (0 ∷ 1 ∷ 2 ∷ 3 ∷ []) a (pos 0) l k hk all (record {
      there = four P 0 1 2 3 (omega arith) (omega arith) (omega arith) (omega arith);
      triangle = record { first = 0; second = 1; third = 2; first_in = omega arith; second_in = omega arith; third_in = omega arith; apart = circle_apart a l ha };
      on = four On 0 1 2 3 (on_low l a (pos 0)) (on_low l (pos 0) a) (on_low l (neg_ℤ a) (pos 0)) (on_low l (pos 0) (neg_ℤ a));
      far = record { at_face = 0; at = 2; at_face_in = omega arith; at_in = omega arith; behind = behind_low l k (pos 0) (pos 0) hk };
    })

to_apex_there : All (λ (f : List ℕ). All (λ (i : ℕ). i < 5) f) faces_to_apex
to_apex_there =
    let P : ℕ → Type 0 = λ i. i < 5 in
    All-from_recursion (λ (f : List ℕ). All P f) faces_to_apex (
      three P 0 1 4 (omega arith) (omega arith) (omega arith),
      (
        three P 1 2 4 (omega arith) (omega arith) (omega arith),
        (
          three P 2 3 4 (omega arith) (omega arith) (omega arith),
          (
            three P 3 0 4 (omega arith) (omega arith) (omega arith),
            (
              four P 0 1 2 3 (omega arith) (omega arith) (omega arith) (omega arith),
              tt,
            ),
          ),
        ),
      ),
    )

pub to_apex_faces : (a l k : ℤ) → pos 0 <ℤ a → pos 0 <ℤ k → All (λ (p : List ℤ). IsCorner a (pos 0) l (l +ℤ k) (point_at p)) (to_apex a l (l +ℤ k)).points → All (IsFaceOfShape (to_apex a l (l +ℤ k))) faces_to_apex
to_apex_faces a l k ha hk all =
    let mesh = to_apex a l (l +ℤ k) in
    let face : (f : List ℕ) → IsOutside mesh f → IsFaceOfShape mesh f = outside_is_face mesh to_apex_there in
    All-from_recursion (IsFaceOfShape mesh) faces_to_apex (
      face (0 ∷ 1 ∷ 4 ∷ []) (first_side a l k ha hk all),
      (
        face (1 ∷ 2 ∷ 4 ∷ []) (second_side a l k ha hk all),
        (
          face (2 ∷ 3 ∷ 4 ∷ []) (third_side a l k ha hk all),
          (
            face (3 ∷ 0 ∷ 4 ∷ []) (fourth_side a l k ha hk all),
            (
              face (0 ∷ 1 ∷ 2 ∷ 3 ∷ []) (low_end a l k ha hk all),
              tt,
            ),
          ),
        ),
      ),
    )
