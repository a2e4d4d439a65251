-- The faces of a cylinder between two circles.
use Rattle.std.proofs.Common.{◌≡◌, ℕ, ◌<◌, List, [], ◌∷◌, ◌++◌, map, All, arith, ℤ, pos, negsuc, neg_ℤ, ◌+ℤ◌, ◌<ℤ◌}
use Rattle.std.proofs.lemmas.List.Elements.{All-from_recursion}
use Rattle.plane_predicate.specs.Space.{point_at}
use Rattle.plane_predicate.proofs.lemmas.IntegerRing.{sums}
use Rattle.primitives.specs.Shapes.{Mesh, value_at_point, IsFaceOfShape}
use Rattle.primitives.specs.Prisms.{at_height}
use Rattle.round_four.specs.Circles.{circle_points}
use Rattle.round_four.specs.Cylinders.{faces_of_two}
use Rattle.primitives.proofs.lemmas.Bodies.{outside_is_face, IsOutside}
use Rattle.round_four.proofs.Corners.{back_on, front_on, left_far, left_on, minus_sign, plus_sign, right_far, right_on, IsCorner}
use Rattle.round_four.proofs.Sides.{four, high_on, low_apart, low_behind, low_on, side_is_outside, side_plane}
use Rattle.round_four.proofs.EndFaces.{behind_high, behind_low, circle_apart, high_is_outside, high_plane, low_is_outside, low_plane, on_high, on_low}

-- the circle with the radius a at the height l, and that with the radius b at the height h
abbrev pub two : ℤ → ℤ → ℤ → ℤ → Mesh
two a b l h = record { points = map (at_height l) (circle_points a) ++ map (at_height h) (circle_points b); faces = faces_of_two }

first_side : (a b l k : ℤ) → pos 0 <ℤ a → pos 0 <ℤ b → pos 0 <ℤ k → All (λ (p : List ℤ). IsCorner a b l (l +ℤ k) (point_at p)) (two a b l (l +ℤ k)).points → IsOutside (two a b l (l +ℤ k)) (0 ∷ 1 ∷ 5 ∷ 4 ∷ [])
first_side a b l k ha hb hk all =
    let s = pos 1 in let t = pos 1 in let mesh = two a b l (l +ℤ k) in let P : ℕ → Type 0 = λ i. i < 8 in
    let On : ℕ → Type 0 = λ i. value_at_point mesh.points (side_plane s t a b l k) i ≡ pos 0 in
    side_is_outside mesh (0 ∷ 1 ∷ 5 ∷ 4 ∷ []) s t a b l k plus_sign plus_sign hk all (record {
      there = four P 0 1 5 4 (omega arith) (omega arith) (omega arith) (omega arith);
      triangle = record { first = 0; second = 1; third = 2; first_in = omega arith; second_in = omega arith; third_in = omega arith; apart = low_apart a (pos 0) (pos 0) a (pos 0) b l k (λ e. omega (arith, sums, e, ha)) hk };
      on = four On 0 1 5 4 (low_on s t a b l k a (pos 0) (right_on t a)) (low_on s t a b l k (pos 0) a (back_on s a)) (high_on s t a b l k (pos 0) b (back_on s b)) (high_on s t a b l k b (pos 0) (right_on t b));
      far = record { at_face = 4; at = 2; at_face_in = omega arith; at_in = omega arith; behind = low_behind s t a b l k (neg_ℤ a) (pos 0) hk ha (left_far t a) };
    })

second_side : (a b l k : ℤ) → pos 0 <ℤ a → pos 0 <ℤ b → pos 0 <ℤ k → All (λ (p : List ℤ). IsCorner a b l (l +ℤ k) (point_at p)) (two a b l (l +ℤ k)).points → IsOutside (two a b l (l +ℤ k)) (1 ∷ 2 ∷ 6 ∷ 5 ∷ [])
second_side a b l k ha hb hk all =
    let s = negsuc 0 in let t = pos 1 in let mesh = two a b l (l +ℤ k) in let P : ℕ → Type 0 = λ i. i < 8 in
    let On : ℕ → Type 0 = λ i. value_at_point mesh.points (side_plane s t a b l k) i ≡ pos 0 in
    side_is_outside mesh (1 ∷ 2 ∷ 6 ∷ 5 ∷ []) s t a b l k minus_sign plus_sign hk all (record {
      there = four P 1 2 6 5 (omega arith) (omega arith) (omega arith) (omega arith);
      triangle = record { first = 0; second = 1; third = 2; first_in = omega arith; second_in = omega arith; third_in = omega arith; apart = low_apart (pos 0) a (neg_ℤ a) (pos 0) (neg_ℤ b) (pos 0) l k (λ e. omega (arith, sums, e, ha)) hk };
      on = four On 1 2 6 5 (low_on s t a b l k (pos 0) a (back_on s a)) (low_on s t a b l k (neg_ℤ a) (pos 0) (left_on t a)) (high_on s t a b l k (neg_ℤ b) (pos 0) (left_on t b)) (high_on s t a b l k (pos 0) b (back_on s b));
      far = record { at_face = 4; at = 0; at_face_in = omega arith; at_in = omega arith; behind = low_behind s t a b l k a (pos 0) hk ha (right_far t a) };
    })

third_side : (a b l k : ℤ) → pos 0 <ℤ a → pos 0 <ℤ b → pos 0 <ℤ k → All (λ (p : List ℤ). IsCorner a b l (l +ℤ k) (point_at p)) (two a b l (l +ℤ k)).points → IsOutside (two a b l (l +ℤ k)) (2 ∷ 3 ∷ 7 ∷ 6 ∷ [])
third_side a b l k ha hb hk all =
    let s = negsuc 0 in let t = negsuc 0 in let mesh = two a b l (l +ℤ k) in let P : ℕ → Type 0 = λ i. i < 8 in
    let On : ℕ → Type 0 = λ i. value_at_point mesh.points (side_plane s t a b l k) i ≡ pos 0 in
    side_is_outside mesh (2 ∷ 3 ∷ 7 ∷ 6 ∷ []) s t a b l k minus_sign minus_sign hk all (record {
      there = four P 2 3 7 6 (omega arith) (omega arith) (omega arith) (omega arith);
      triangle = record { first = 0; second = 1; third = 2; first_in = omega arith; second_in = omega arith; third_in = omega arith; apart = low_apart (neg_ℤ a) (pos 0) (pos 0) (neg_ℤ a) (pos 0) (neg_ℤ b) l k (λ e. omega (arith, sums, e, ha)) hk };
      on = four On 2 3 7 6 (low_on s t a b l k (neg_ℤ a) (pos 0) (left_on t a)) (low_on s t a b l k (pos 0) (neg_ℤ a) (front_on s a)) (high_on s t a b l k (pos 0) (neg_ℤ b) (front_on s b)) (high_on s t a b l k (neg_ℤ b) (pos 0) (left_on t b));
      far = record { at_face = 4; at = 0; at_face_in = omega arith; at_in = omega arith; behind = low_behind s t a b l k a (pos 0) hk ha (right_far t a) };
    })

fourth_side : (a b l k : ℤ) → pos 0 <ℤ a → pos 0 <ℤ b → pos 0 <ℤ k → All (λ (p : List ℤ). IsCorner a b l (l +ℤ k) (point_at p)) (two a b l (l +ℤ k)).points → IsOutside (two a b l (l +ℤ k)) (3 ∷ 0 ∷ 4 ∷ 7 ∷ [])
fourth_side a b l k ha hb hk all =
    let s = pos 1 in let t = negsuc 0 in let mesh = two a b l (l +ℤ k) in let P : ℕ → Type 0 = λ i. i < 8 in
    let On : ℕ → Type 0 = λ i. value_at_point mesh.points (side_plane s t a b l k) i ≡ pos 0 in
    side_is_outside mesh (3 ∷ 0 ∷ 4 ∷ 7 ∷ []) s t a b l k plus_sign minus_sign hk all (record {
      there = four P 3 0 4 7 (omega arith) (omega arith) (omega arith) (omega arith);
      triangle = record { first = 0; second = 1; third = 2; first_in = omega arith; second_in = omega arith; third_in = omega arith; apart = low_apart (pos 0) (neg_ℤ a) a (pos 0) b (pos 0) l k (λ e. omega (arith, sums, e, ha)) hk };
      on = four On 3 0 4 7 (low_on s t a b l k (pos 0) (neg_ℤ a) (front_on s a)) (low_on s t a b l k a (pos 0) (right_on t a)) (high_on s t a b l k b (pos 0) (right_on t b)) (high_on s t a b l k (pos 0) (neg_ℤ b) (front_on s b));
      far = record { at_face = 4; at = 2; at_face_in = omega arith; at_in = omega arith; behind = low_behind s t a b l k (neg_ℤ a) (pos 0) hk ha (left_far t a) };
    })

low_end : (a b l k : ℤ) → pos 0 <ℤ a → pos 0 <ℤ b → pos 0 <ℤ k → All (λ (p : List ℤ). IsCorner a b l (l +ℤ k) (point_at p)) (two a b l (l +ℤ k)).points → IsOutside (two a b l (l +ℤ k)) (0 ∷ 1 ∷ 2 ∷ 3 ∷ [])
low_end a b l k ha hb hk all =
    let mesh = two a b l (l +ℤ k) in let P : ℕ → Type 0 = λ i. i < 8 in
    let On : ℕ → Type 0 = λ i. value_at_point mesh.points (low_plane l) i ≡ pos 0 in
    low_is_outside mesh (0 ∷ 1 ∷ 2 ∷ 3 ∷ []) a b l k hk all (record {
      there = four P 0 1 2 3 (omega arith) (omega arith) (omega arith) (omega arith);
      triangle = record { first = 0; second = 1; third = 2; first_in = omega arith; second_in = omega arith; third_in = omega arith; apart = circle_apart a l ha };
      on = four On 0 1 2 3 (on_low l a (pos 0)) (on_low l (pos 0) a) (on_low l (neg_ℤ a) (pos 0)) (on_low l (pos 0) (neg_ℤ a));
      far = record { at_face = 5; at = 0; at_face_in = omega arith; at_in = omega arith; behind = behind_low l k b (pos 0) hk };
    })

high_end : (a b l k : ℤ) → pos 0 <ℤ a → pos 0 <ℤ b → pos 0 <ℤ k → All (λ (p : List ℤ). IsCorner a b l (l +ℤ k) (point_at p)) (two a b l (l +ℤ k)).points → IsOutside (two a b l (l +ℤ k)) (4 ∷ 5 ∷ 6 ∷ 7 ∷ [])
high_end a b l k ha hb hk all =
    let mesh = two a b l (l +ℤ k) in let P : ℕ → Type 0 = λ i. i < 8 in
    let On : ℕ → Type 0 = λ i. value_at_point mesh.points (high_plane (l +ℤ k)) i ≡ pos 0 in
    high_is_outside mesh (4 ∷ 5 ∷ 6 ∷ 7 ∷ []) a b l k hk all (record {
      there = four P 4 5 6 7 (omega arith) (omega arith) (omega arith) (omega arith);
      triangle = record { first = 0; second = 1; third = 2; first_in = omega arith; second_in = omega arith; third_in = omega arith; apart = circle_apart b (l +ℤ k) hb };
      on = four On 4 5 6 7 (on_high (l +ℤ k) b (pos 0)) (on_high (l +ℤ k) (pos 0) b) (on_high (l +ℤ k) (neg_ℤ b) (pos 0)) (on_high (l +ℤ k) (pos 0) (neg_ℤ b));
      far = record { at_face = 4; at = 0; at_face_in = omega arith; at_in = omega arith; behind = behind_high l k a (pos 0) hk };
    })

two_there : All (λ (f : List ℕ). All (λ (i : ℕ). i < 8) f) faces_of_two
two_there =
    let P : ℕ → Type 0 = λ i. i < 8 in
    All-from_recursion (λ (f : List ℕ). All P f) faces_of_two (
      four P 0 1 5 4 (omega arith) (omega arith) (omega arith) (omega arith),
      (
        four P 1 2 6 5 (omega arith) (omega arith) (omega arith) (omega arith),
        (
          four P 2 3 7 6 (omega arith) (omega arith) (omega arith) (omega arith),
          (
            four P 3 0 4 7 (omega arith) (omega arith) (omega arith) (omega arith),
            (
              four P 0 1 2 3 (omega arith) (omega arith) (omega arith) (omega arith),
              (
                four P 4 5 6 7 (omega arith) (omega arith) (omega arith) (omega arith),
                tt,
              ),
            ),
          ),
        ),
      ),
    )

pub two_faces : (a b l k : ℤ) → pos 0 <ℤ a → pos 0 <ℤ b → pos 0 <ℤ k → All (λ (p : List ℤ). IsCorner a b l (l +ℤ k) (point_at p)) (two a b l (l +ℤ k)).points → All (IsFaceOfShape (two a b l (l +ℤ k))) faces_of_two
two_faces a b l k ha hb hk all =
    let mesh = two a b l (l +ℤ k) in
    let face : (f : List ℕ) → IsOutside mesh f → IsFaceOfShape mesh f = outside_is_face mesh two_there in
    All-from_recursion (IsFaceOfShape mesh) faces_of_two (
      face (0 ∷ 1 ∷ 5 ∷ 4 ∷ []) (first_side a b l k ha hb hk all),
      (
        face (1 ∷ 2 ∷ 6 ∷ 5 ∷ []) (second_side a b l k ha hb hk all),
        (
          face (2 ∷ 3 ∷ 7 ∷ 6 ∷ []) (third_side a b l k ha hb hk all),
          (
            face (3 ∷ 0 ∷ 4 ∷ 7 ∷ []) (fourth_side a b l k ha hb hk all),
            (
              face (0 ∷ 1 ∷ 2 ∷ 3 ∷ []) (low_end a b l k ha hb hk all),
              (
                face (4 ∷ 5 ∷ 6 ∷ 7 ∷ []) (high_end a b l k ha hb hk all),
                tt,
              ),
            ),
          ),
        ),
      ),
    )
