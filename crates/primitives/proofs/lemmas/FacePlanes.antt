-- The planes of a shape's faces, and the points behind them.
use Rattle.std.proofs.Common.{◌≡◌, ℕ, ◌+◌, ◌<◌, List, [], length, get_or, sym, ap, ◌∙◌, subst, arith, ℤ, pos, ◌*ℤ◌, neg_ℤ, ◌<ℤ◌, ◌≤ℤ◌, unsigned_abs, inl, inr, All, Any}
use Rattle.std.proofs.lemmas.List.{get_or_default}
use Rattle.plane_predicate.specs.Space.{Coefficients, Coordinates, value, opposite_of, plane_of_points, AreCollinear, IsPlaneTimes}
use Rattle.plane_predicate.proofs.lemmas.IntegerRing.{sums, zero_mul, mul_comm_ℤ}
use Rattle.plane_predicate.proofs.lemmas.Opposites.{size_of_negative}
use Rattle.plane_predicate.proofs.lemmas.Signs.{signs, pos_neg, neg_neg, most_least, most_most}
use Rattle.plane_predicate.proofs.lemmas.ThroughPoints.{through_on}
use Rattle.plane_predicate.proofs.lemmas.Vectors.{value-opposite}
use Rattle.primitives.specs.Shapes.{Mesh, mesh_point, value_at_point, IsFaceOfShape, IsPlaneOfFace}
use Rattle.primitives.specs.Spanning.{SpansFace}
use Rattle.primitives.proofs.lemmas.Moves.{cancelled}
use Rattle.primitives.proofs.lemmas.OnePlane.{GoesThrough, nowhere, not_zero_below, some_direction, two_planes}

-- ---- signs
-- mx nq = nx mq, with mx at most 0, nx above 0 and mq below 0
far_ahead : (mx nx mq nq : ℤ) → mx *ℤ nq ≡ nx *ℤ mq → mx ≤ℤ pos 0 → pos 0 <ℤ nx → mq <ℤ pos 0 → pos 0 <ℤ nq
far_ahead mx nx mq nq e hm hx hq =
    let right = pos_neg nx mq hx hq in
    elim (signs nq) [
      | inl below ↦ absurd (omega (arith, sums, e, right, most_most mx nq hm (omega (arith, sums, below))))
      | inr other ↦ elim other [
        | inl none ↦ absurd (omega (arith, sums, e, right, most_most mx nq hm (omega (arith, sums, none))))
        | inr above ↦ above
      ]
    ]

-- my nq = ny mq, with my at most 0, mq below 0 and nq above 0
not_behind : (my ny mq nq : ℤ) → my *ℤ nq ≡ ny *ℤ mq → my ≤ℤ pos 0 → mq <ℤ pos 0 → pos 0 <ℤ nq → pos 0 ≤ℤ ny
not_behind my ny mq nq e hm hq hn =
    elim (signs ny) [
      | inl below ↦ absurd (omega (arith, sums, e, neg_neg ny mq below hq, most_least my nq hm (omega (arith, sums, hn))))
      | inr other ↦ elim other [ inl none ↦ omega (arith, sums, none) | inr above ↦ omega (arith, sums, above) ]
    ]

-- bx mq = mx bq, with mx and bq below 0 and mq at most 0
body_below : (bx mx bq mq : ℤ) → bx *ℤ mq ≡ mx *ℤ bq → mx <ℤ pos 0 → bq <ℤ pos 0 → mq ≤ℤ pos 0 → bx <ℤ pos 0
body_below bx mx bq mq e hm hb hq =
    let right = neg_neg mx bq hm hb in
    elim (signs bx) [
      | inl below ↦ below
      | inr other ↦ absurd (omega (arith, sums, e, right, most_least mq bx hq (elim other [ inl none ↦ omega (arith, sums, none) | inr above ↦ omega (arith, sums, above) ]), mul_comm_ℤ bx mq))
    ]

-- bx nq = nx bq, with bx, nq and bq below 0
plane_below : (bx nx bq nq : ℤ) → bx *ℤ nq ≡ nx *ℤ bq → bx <ℤ pos 0 → nq <ℤ pos 0 → bq <ℤ pos 0 → nx <ℤ pos 0
plane_below bx nx bq nq e hb hn hq =
    let left = neg_neg bx nq hb hn in
    elim (signs nx) [
      | inl below ↦ below
      | inr other ↦ absurd (omega (arith, sums, e, left, most_least bq nx (omega (arith, sums, hq)) (elim other [ inl none ↦ omega (arith, sums, none) | inr above ↦ omega (arith, sums, above) ]), mul_comm_ℤ nx bq))
    ]

no_size : (x : ℤ) → x ≡ pos 0 → unsigned_abs x ≡ 0
no_size x e = ap unsigned_abs e

-- a plane that is 0 everywhere has no direction
directed_somewhere : (m : Coefficients) → 0 < unsigned_abs m.a + unsigned_abs m.b + unsigned_abs m.c → ((p : Coordinates) → value m p ≡ pos 0) → ⊥
directed_somewhere m h all = let z = nowhere m all in omega (arith, no_size m.a z.0, no_size m.b z.1, no_size m.c z.2)

-- ---- the point of a face that is strictly behind the face's plane
abbrev pub far : (mesh : Mesh) (face : List ℕ) → IsFaceOfShape mesh face → ℕ
far mesh face is = get_or (get_or mesh.faces is.body.at_face []) is.body.at 0

on_corners : (points : List (List ℤ)) (face : List ℕ) (m : Coefficients) (i j k : ℕ) → i < length face → j < length face → k < length face → All (λ (c : ℕ). value_at_point points m c ≡ pos 0) face →
    GoesThrough m (mesh_point points (get_or face i 0)) (mesh_point points (get_or face j 0)) (mesh_point points (get_or face k 0))
on_corners points face m i j k hi hj hk on = record { first = on i 0 hi; second = on j 0 hj; third = on k 0 hk }

-- two planes through the corners of a face, of which the first misses the point q
proportion : (points : List (List ℤ)) (m n : Coefficients) (i j k : ℕ) → GoesThrough m (mesh_point points i) (mesh_point points j) (mesh_point points k) → GoesThrough n (mesh_point points i) (mesh_point points j) (mesh_point points k) →
    (AreCollinear (mesh_point points i) (mesh_point points j) (mesh_point points k) → ⊥) → (q : Coordinates) → value m q <ℤ pos 0 → (p : Coordinates) → value m p *ℤ value n q ≡ value n p *ℤ value m q
proportion points m n i j k tm tn apart q below =
    let a : List ℤ = get_or points i [] in let b : List ℤ = get_or points j [] in let c : List ℤ = get_or points k [] in
    two_planes m n (get_or a 0 (pos 0)) (get_or a 1 (pos 0)) (get_or a 2 (pos 0)) (get_or b 0 (pos 0)) (get_or b 1 (pos 0)) (get_or b 2 (pos 0)) (get_or c 0 (pos 0)) (get_or c 1 (pos 0)) (get_or c 2 (pos 0)) tm tn apart q (not_zero_below (value m q) below)

-- the same of the body's plane and another plane through the face's corners
pub body_proportion : (mesh : Mesh) (face : List ℕ) (is : IsFaceOfShape mesh face) (n : Coefficients) → All (λ (c : ℕ). value_at_point mesh.points n c ≡ pos 0) face →
    (p : Coordinates) → value is.body.plane p *ℤ value_at_point mesh.points n (far mesh face is) ≡ value n p *ℤ value_at_point mesh.points is.body.plane (far mesh face is)
body_proportion mesh face is n on =
    let t = is.triangle in
    proportion mesh.points is.body.plane n (get_or face t.first 0) (get_or face t.second 0) (get_or face t.third 0)
    (on_corners mesh.points face is.body.plane t.first t.second t.third t.first_in t.second_in t.third_in is.body.is.on)
    (on_corners mesh.points face n t.first t.second t.third t.first_in t.second_in t.third_in on)
    t.apart (mesh_point mesh.points (far mesh face is)) is.body.behind

-- a point behind some plane of a face is behind the body's
pub behind_body : (mesh : Mesh) (face : List ℕ) (is : IsFaceOfShape mesh face) (m : Coefficients) → IsPlaneOfFace mesh face m → (p : Coordinates) → value m p <ℤ pos 0 → value is.body.plane p <ℤ pos 0
behind_body mesh face is m h p below =
    body_below (value is.body.plane p) (value m p) (value_at_point mesh.points is.body.plane (far mesh face is)) (value_at_point mesh.points m (far mesh face is))
    (body_proportion mesh face is m h.on p) below is.body.behind (h.none_ahead is.body.at_face [] is.body.at_face_in is.body.at 0 is.body.at_in)

far_behind : (mesh : Mesh) (face : List ℕ) (is : IsFaceOfShape mesh face) (n : Coefficients) → IsPlaneOfFace mesh face n → value_at_point mesh.points n (far mesh face is) <ℤ pos 0
far_behind mesh face is n h =
    let most = h.none_ahead is.body.at_face [] is.body.at_face_in is.body.at 0 is.body.at_in in
    let q = mesh_point mesh.points (far mesh face is) in
    elim (signs (value n q)) [
      | inl below ↦ below
      | inr other ↦ elim other [
        | inl none ↦ absurd (directed_somewhere n h.directed (λ p. cancelled (value is.body.plane q) (value n p) (not_zero_below (value is.body.plane q) is.body.behind)
            (mul_comm_ℤ (value is.body.plane q) (value n p) ∙ sym (body_proportion mesh face is n h.on p) ∙ ap (λ (z : ℤ). value is.body.plane p *ℤ z) none ∙ mul_comm_ℤ (value is.body.plane p) (pos 0) ∙ zero_mul (value is.body.plane p))))
        | inr above ↦ absurd (omega (arith, sums, above, most))
      ]
    ]

-- and behind every plane of the face
pub behind_each : (mesh : Mesh) (face : List ℕ) (is : IsFaceOfShape mesh face) (n : Coefficients) → IsPlaneOfFace mesh face n → (p : Coordinates) → value is.body.plane p <ℤ pos 0 → value n p <ℤ pos 0
behind_each mesh face is n h p below =
    plane_below (value is.body.plane p) (value n p) (value_at_point mesh.points is.body.plane (far mesh face is)) (value_at_point mesh.points n (far mesh face is))
    (body_proportion mesh face is n h.on p) below (far_behind mesh face is n h) is.body.behind

-- ---- the plane through three corners, turned
no_multiple : (k x : ℤ) → x ≡ pos 0 → k *ℤ x ≡ pos 0
no_multiple k x e = ap (λ (z : ℤ). k *ℤ z) e ∙ mul_comm_ℤ k (pos 0) ∙ zero_mul k

-- a plane through three points that are not on one line has a direction
spanned_directed : (a b c : Coordinates) (n : Coefficients) → IsPlaneTimes (plane_of_points a b c) n → (AreCollinear a b c → ⊥) → 0 < unsigned_abs n.a + unsigned_abs n.b + unsigned_abs n.c
spanned_directed a b c n t apart =
    some_direction n.a n.b n.c (λ ea eb ec. apart (record { a = t.a ∙ no_multiple t.by n.a ea; b = t.b ∙ no_multiple t.by n.b eb; c = t.c ∙ no_multiple t.by n.c ec }))

spans_through : (points : List (List ℤ)) (i j k : ℕ) (n : Coefficients) → IsPlaneTimes (plane_of_points (mesh_point points i) (mesh_point points j) (mesh_point points k)) n → GoesThrough n (mesh_point points i) (mesh_point points j) (mesh_point points k)
spans_through points i j k n t =
    let a : List ℤ = get_or points i [] in let b : List ℤ = get_or points j [] in let c : List ℤ = get_or points k [] in
    let h = through_on (get_or a 0 (pos 0)) (get_or a 1 (pos 0)) (get_or a 2 (pos 0)) (get_or b 0 (pos 0)) (get_or b 1 (pos 0)) (get_or b 2 (pos 0)) (get_or c 0 (pos 0)) (get_or c 1 (pos 0)) (get_or c 2 (pos 0)) n t in
    record { first = h.0; second = h.1; third = h.2 }

face_directed : (points : List (List ℤ)) (face : List ℕ) (n : Coefficients) → SpansFace points face n → 0 < unsigned_abs n.a + unsigned_abs n.b + unsigned_abs n.c
face_directed points face n s = spanned_directed (mesh_point points (get_or face s.first 0)) (mesh_point points (get_or face s.second 0)) (mesh_point points (get_or face s.third 0)) n s.times s.apart

-- the values of the body's plane and of a plane through three corners of the face
pub spanned_proportion : (mesh : Mesh) (face : List ℕ) (is : IsFaceOfShape mesh face) (n : Coefficients) → SpansFace mesh.points face n →
    (p : Coordinates) → value is.body.plane p *ℤ value_at_point mesh.points n (far mesh face is) ≡ value n p *ℤ value_at_point mesh.points is.body.plane (far mesh face is)
spanned_proportion mesh face is n s =
    let i = get_or face s.first 0 in let j = get_or face s.second 0 in let k = get_or face s.third 0 in
    proportion mesh.points is.body.plane n i j k
    (on_corners mesh.points face is.body.plane s.first s.second s.third s.first_in s.second_in s.third_in is.body.is.on)
    (spans_through mesh.points i j k n s.times)
    s.apart
    (mesh_point mesh.points (far mesh face is)) is.body.behind

spanned_on : (mesh : Mesh) (face : List ℕ) (is : IsFaceOfShape mesh face) (n : Coefficients) → SpansFace mesh.points face n → All (λ (c : ℕ). value_at_point mesh.points n c ≡ pos 0) face
spanned_on mesh face is n s k d lt =
    let p = mesh_point mesh.points (get_or face k d) in
    let q = mesh_point mesh.points (far mesh face is) in
    cancelled (value is.body.plane q) (value n p) (not_zero_below (value is.body.plane q) is.body.behind)
    (mul_comm_ℤ (value is.body.plane q) (value n p) ∙ sym (spanned_proportion mesh face is n s p) ∙ ap (λ (z : ℤ). z *ℤ value n q) (is.body.is.on k d lt) ∙ zero_mul (value n q))

-- no point is ahead of it: it is the face's plane
pub spanned_as_it_is : (mesh : Mesh) (face : List ℕ) → IsFaceOfShape mesh face → (n : Coefficients) → SpansFace mesh.points face n → All (All (λ (c : ℕ). value_at_point mesh.points n c ≤ℤ pos 0)) mesh.faces → IsPlaneOfFace mesh face n
spanned_as_it_is mesh face is n s none = record { directed = face_directed mesh.points face n s; on = spanned_on mesh face is n s; none_ahead = none }

most_negative : (x : ℤ) → pos 0 ≤ℤ x → neg_ℤ x ≤ℤ pos 0
most_negative x h = omega (arith, sums, h)

-- some point is ahead of it: its opposite is the face's plane
pub spanned_opposite : (mesh : Mesh) (face : List ℕ) → IsFaceOfShape mesh face → (n : Coefficients) → SpansFace mesh.points face n → (f i : ℕ) → f < length mesh.faces → i < length (get_or mesh.faces f []) →
    pos 0 <ℤ value_at_point mesh.points n (get_or (get_or mesh.faces f []) i 0) → IsPlaneOfFace mesh face (opposite_of n)
spanned_opposite mesh face is n s f i hf hi above =
    let q = mesh_point mesh.points (far mesh face is) in
    let x = mesh_point mesh.points (get_or (get_or mesh.faces f []) i 0) in
    let ahead = far_ahead (value is.body.plane x) (value n x) (value is.body.plane q) (value n q) (spanned_proportion mesh face is n s x) (is.body.is.none_ahead f [] hf i 0 hi) above is.body.behind in
    record {
      directed = omega (arith, face_directed mesh.points face n s, size_of_negative n.a, size_of_negative n.b, size_of_negative n.c);
      on = λ k d lt. value-opposite n (mesh_point mesh.points (get_or face k d)) ∙ ap neg_ℤ (spanned_on mesh face is n s k d lt);
      none_ahead = λ g e hg k d hk.
          let y = mesh_point mesh.points (get_or (get_or mesh.faces g e) k d) in
          subst (λ (z : ℤ). z ≤ℤ pos 0) (sym (value-opposite n y)) (most_negative (value n y) (not_behind (value is.body.plane y) (value n y) (value is.body.plane q) (value n q) (spanned_proportion mesh face is n s y) (is.body.is.none_ahead g e hg k d hk) is.body.behind ahead));
    }

-- ---- a point of some face
pub record IsFound (P : ℕ → Type 0) (faces : List (List ℕ)) : Type 0 where
  pub face : ℕ
  pub at : ℕ
  pub face_in : face < length faces
  pub at_in : at < length (get_or faces face [])
  pub holds : P (get_or (get_or faces face []) at 0)

pub found : (P : ℕ → Type 0) (faces : List (List ℕ)) → Any (Any P) faces → IsFound P faces
found P faces h =
    let face = h.1 in
    let same_face : get_or faces h.0 [] ≡ face = get_or_default faces h.0 [] face h.2 ∙ h.3 in
    let inner = h.4 in
    let same_item : get_or (get_or faces h.0 []) inner.0 0 ≡ inner.1 = ap (λ (f : List ℕ). get_or f inner.0 0) same_face ∙ get_or_default face inner.0 0 inner.1 inner.2 ∙ inner.3 in
    record {
      face = h.0;
      at = inner.0;
      face_in = h.2;
      at_in = subst (λ (f : List ℕ). inner.0 < length f) (sym same_face) inner.2;
      holds = subst P (sym same_item) inner.4;
    }
