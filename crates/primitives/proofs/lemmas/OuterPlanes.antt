-- Planes that bound a convex solid, and the one that three corners of a face span.
use Rattle.std.proofs.Common.{◌≡◌, ℕ, ◌+◌, ◌<◌, List, [], ◌∷◌, get_or, length, refl, sym, ap, ◌∙◌, All, Any, arith, inl, inr, ℤ, pos, negsuc, zero, suc, ◌*ℤ◌, neg_ℤ, ◌<ℤ◌, ◌≤ℤ◌, unsigned_abs}
use Rattle.std.proofs.lemmas.List.{get_or_default}
use Rattle.plane_predicate.specs.Space.{Coefficients, Coordinates, point_at, value, inner_product, plane_of_points, opposite_of}
use Rattle.plane_predicate.proofs.lemmas.IntegerRing.{sums, mul_comm_ℤ, mul_neg_left}
use Rattle.plane_predicate.proofs.lemmas.Opposites.{size_of_negative}
use Rattle.plane_predicate.proofs.lemmas.Polynomials.{var, num, plus, times, minus, ring}
use Rattle.plane_predicate.proofs.lemmas.Signs.{signs, neg_pos, most_most}
use Rattle.plane_predicate.proofs.lemmas.Vectors.{value-opposite}
use Rattle.primitives.specs.Shapes.{Mesh, mesh_point, value_at_point, IsPlaneOfFace, IsOnOnePlane}
use Rattle.primitives.proofs.lemmas.FacePlanes.{found}
use Rattle.primitives.specs.declared.ways.DirectedEdge.{DirectedEdge}
use Rattle.primitives.specs.Bounding.{IsOuterPlane, IsFaceOfBody}
use Rattle.primitives.specs.Checks.{HasOuterPlane, IsFlatFace}
use Rattle.primitives.specs.CornerPlanes.{IsCornerPlane}
use Rattle.primitives.specs.DirectedEdges.{edges_of_mesh_face, IsClockwise}
use Rattle.primitives.proofs.lemmas.ThroughCorners.{flat_on, is_zero_or_not, proportion, spanned_directed, spanned_holds}

-- the values of two planes are in proportion, at directions too
pub record AreInProportion (m n : Coefficients) : Type 0 where
  pub values : (p q : Coordinates) → value m p *ℤ value n q ≡ value m q *ℤ value n p

-- a direction as the point at infinity that it leads to
abbrev far : Coefficients → Coordinates
far f = record { x = f.a; y = f.b; z = f.c; w = pos 0 }

inner_is : (m f : Coefficients) → value m (far f) ≡ inner_product m f
inner_is m f =
    ring (m.a ∷ m.b ∷ m.c ∷ m.d ∷ f.a ∷ f.b ∷ f.c ∷ [])
    (minus (plus (plus (times (var 0) (var 4)) (times (var 1) (var 5))) (times (var 2) (var 6))) (times (var 3) (num (pos 0))))
    (plus (plus (times (var 0) (var 4)) (times (var 1) (var 5))) (times (var 2) (var 6)))
    refl

-- x is to y as two numbers below 0
most_by : (x y s t : ℤ) → x *ℤ t ≡ s *ℤ y → s <ℤ pos 0 → t <ℤ pos 0 → x ≤ℤ pos 0 → y ≤ℤ pos 0
most_by x y s t e hs ht hx = elim (signs y) [
  | inl below ↦ omega (arith, sums, below)
  | inr (inl none) ↦ omega (arith, sums, none)
  | inr (inr above) ↦ absurd (omega (arith, sums, most_most x t hx (omega (arith, sums, ht)), neg_pos s y hs above, e))
]

above_opposite : (m : Coefficients) (p : Coordinates) → value m p <ℤ pos 0 → pos 0 <ℤ value (opposite_of m) p
above_opposite m p h = omega (arith, sums, value-opposite m p, h)

below_opposite : (m : Coefficients) (p : Coordinates) → pos 0 <ℤ value (opposite_of m) p → value m p <ℤ pos 0
below_opposite m p h = omega (arith, sums, value-opposite m p, h)

-- some point of a face is ahead of the opposite of a plane
some_ahead : (mesh : Mesh) (n : Coefficients) (f : ℕ) (g : List ℕ) (i e : ℕ) → f < length mesh.faces → get_or mesh.faces f g ≡ g → i < length g → value_at_point mesh.points n (get_or g i e) <ℤ pos 0 →
    Any (λ (h : List ℕ). Any (λ (j : ℕ). pos 0 <ℤ value_at_point mesh.points (opposite_of n) j) h) mesh.faces
some_ahead mesh n f g i e hf here hi below =
    (f, g, hf, here, (i, get_or g i e, hi, get_or_default g i (get_or g i e) e hi, above_opposite n (mesh_point mesh.points (get_or g i e)) below))

-- a plane in proportion with a face's outer plane, where both are below 0 at some point of a face
bounds_by : (mesh : Mesh) (face : List ℕ) (m n : Coefficients) → IsPlaneOfFace mesh face m → IsClockwise mesh.points face m → AreInProportion m n → (f : ℕ) (d : List ℕ) (i e : ℕ) → f < length mesh.faces → i < length (get_or mesh.faces f d) →
    value_at_point mesh.points m (get_or (get_or mesh.faces f d) i e) <ℤ pos 0 → value_at_point mesh.points n (get_or (get_or mesh.faces f d) i e) <ℤ pos 0 → IsOuterPlane mesh face n
bounds_by mesh face m n is clockwise prop f d i e hf hi hm hn =
    let g : List ℕ = get_or mesh.faces f d in
    let q = mesh_point mesh.points (get_or g i e) in
    record {
      none_ahead = λ k c lt j b lj.
          let p = mesh_point mesh.points (get_or (get_or mesh.faces k c) j b) in
          most_by (value m p) (value n p) (value m q) (value n q) (prop.values p q) hm hn (is.none_ahead k c lt j b lj);
      some_behind = some_ahead mesh n f g i e hf (get_or_default mesh.faces f g d hf) hi hn;
      clockwise = λ k c lt j b lj.
          let w : DirectedEdge = get_or (edges_of_mesh_face mesh.points face) k c in
          let t = plane_of_points (point_at w.from) (point_at w.to) (mesh_point mesh.points (get_or face j b)) in
          most_by (inner_product m t) (inner_product n t) (value m q) (value n q) (ap (λ (z : ℤ). z *ℤ value n q) (sym (inner_is m t)) ∙ prop.values (far t) q ∙ ap (λ (z : ℤ). value m q *ℤ z) (inner_is n t)) hm hn (clockwise k c lt j b lj);
    }

times_opposite : (x y z w : ℤ) → x *ℤ y ≡ z *ℤ w → x *ℤ neg_ℤ y ≡ z *ℤ neg_ℤ w
times_opposite x y z w e = omega (arith, sums, mul_comm_ℤ x (neg_ℤ y), mul_comm_ℤ z (neg_ℤ w), mul_neg_left y x, mul_neg_left w z, mul_comm_ℤ x y, mul_comm_ℤ z w, e)

in_opposite_proportion : (m n : Coefficients) → AreInProportion m n → AreInProportion m (opposite_of n)
in_opposite_proportion m n h = record {
  values = λ p q.
      ap (λ (z : ℤ). value m p *ℤ z) (value-opposite n q) ∙ times_opposite (value m p) (value n q) (value m q) (value n p) (h.values p q) ∙ ap (λ (z : ℤ). value m q *ℤ z) (sym (value-opposite n p));
}

below_by : (x : ℤ) → x ≤ℤ pos 0 → (x ≡ pos 0 → ⊥) → x <ℤ pos 0
below_by (pos zero) h n = absurd (n refl)
below_by (pos (suc k)) h n = absurd (omega (arith, sums, h))
below_by (negsuc k) h n = omega (arith, sums)

-- where neither the spanned plane nor its opposite bounds, though the face has an outer plane, all points of the faces are on
-- it
pub one_plane : (mesh : Mesh) (face : List ℕ) (n : Coefficients) → IsCornerPlane mesh.points face n → (IsOuterPlane mesh face n → ⊥) → (IsOuterPlane mesh face (opposite_of n) → ⊥) → HasOuterPlane mesh face → IsOnOnePlane mesh
one_plane mesh face n s first second o =
    let m = o.plane in
    let prop : AreInProportion m n = record { values = proportion mesh.points face m n o.is.on s } in
    record {
      plane = n;
      directed = spanned_directed mesh.points face n s;
      on = λ f d hf i e hi.
          let q = mesh_point mesh.points (get_or (get_or mesh.faces f d) i e) in
          is_zero_or_not (value n q) (λ off.
          let hm : value m q <ℤ pos 0 = below_by (value m q) (o.is.none_ahead f d hf i e hi) (λ z. off (spanned_holds mesh.points face m n o.is.directed o.is.on s q z)) in
          elim (signs (value n q)) [
            | inl below ↦ first (bounds_by mesh face m n o.is o.clockwise prop f d i e hf hi hm below)
            | inr (inl none) ↦ off none
            | inr (inr above) ↦ second (bounds_by mesh face m (opposite_of n) o.is o.clockwise (in_opposite_proportion m n prop) f d i e hf hi hm (omega (arith, sums, value-opposite n q, above)))
          ]);
    }

-- a plane through a face that bounds makes it a bounded face
pub bounded_by : (mesh : Mesh) (face : List ℕ) (k : Coefficients) → 0 < unsigned_abs k.a + unsigned_abs k.b + unsigned_abs k.c → All (λ (i : ℕ). value_at_point mesh.points k i ≡ pos 0) face → IsOuterPlane mesh face k → IsFaceOfBody mesh face
bounded_by mesh face k directed on b =
    let is : IsPlaneOfFace mesh face k = record { directed = directed; on = on; none_ahead = b.none_ahead } in
    let f = found (λ (i : ℕ). pos 0 <ℤ value_at_point mesh.points (opposite_of k) i) mesh.faces b.some_behind in
    record {
      outer = record { plane = k; is = is; clockwise = b.clockwise };
      body = record {
        plane = k;
        is = is;
        at_face = f.face;
        at = f.at;
        at_face_in = f.face_in;
        at_in = f.at_in;
        behind = below_opposite k (mesh_point mesh.points (get_or (get_or mesh.faces f.face []) f.at 0)) f.holds;
      };
    }

pub bounded_spanned : (mesh : Mesh) (face : List ℕ) (n : Coefficients) → IsCornerPlane mesh.points face n → IsFlatFace mesh.points face → IsOuterPlane mesh face n → IsFaceOfBody mesh face
bounded_spanned mesh face n s flat b = bounded_by mesh face n (spanned_directed mesh.points face n s) (flat_on mesh.points face n s flat) b

pub bounded_opposite : (mesh : Mesh) (face : List ℕ) (n : Coefficients) → IsCornerPlane mesh.points face n → IsFlatFace mesh.points face → IsOuterPlane mesh face (opposite_of n) → IsFaceOfBody mesh face
bounded_opposite mesh face n s flat b =
    bounded_by mesh face (opposite_of n) (omega (arith, spanned_directed mesh.points face n s, size_of_negative n.a, size_of_negative n.b, size_of_negative n.c))
    (λ k d lt. value-opposite n (mesh_point mesh.points (get_or face k d)) ∙ ap neg_ℤ (flat_on mesh.points face n s flat k d lt)) b

twice : (x : ℤ) → x ≡ neg_ℤ (neg_ℤ x)
twice x = omega (arith, sums)

pub opposite_twice : (m n : Coefficients) → n ≡ opposite_of m → m ≡ opposite_of n
opposite_twice m n e =
    let same : (k : Coefficients) → k ≡ opposite_of (opposite_of k) = λ k i. record { a = twice k.a i; b = twice k.b i; c = twice k.c i; d = twice k.d i } in
    same m ∙ ap opposite_of (sym e)
