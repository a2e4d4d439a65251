-- The solid behind the faces of a hull.
use Rattle.std.proofs.Common.{◌≡◌, ◌↔◌, inl, inr, List, [], ◌∷◌, length, get_or, refl, sym, ap, ◌∙◌, subst, arith, ℤ, pos, ◌+ℤ◌, ◌-ℤ◌, ◌*ℤ◌, ◌<ℤ◌, ◌≤ℤ◌, ℕ, ◌+◌, ◌<◌, All, unsigned_abs}
use Rattle.std.proofs.lemmas.Bool.{cases_order}
use Rattle.std.proofs.lemmas.List.{get_or_default}
use Rattle.std.proofs.lemmas.List.Elements.{All-from_recursion}
use Rattle.plane_predicate.specs.Space.{Coefficients, Coordinates, point_at, value, minor, opposite_of, AreCollinear}
use Rattle.plane_predicate.proofs.lemmas.IntegerRing.{sums, mul_comm_ℤ, zero_mul}
use Rattle.plane_predicate.proofs.lemmas.Opposites.{size_of_negative}
use Rattle.plane_predicate.proofs.lemmas.Polynomials.{var, num, plus, times, minus, ring}
use Rattle.plane_predicate.proofs.lemmas.Signs.{signs, pos_neg, neg_neg, most_most, most_least, neg_pos}
use Rattle.plane_predicate.proofs.lemmas.Vectors.{minorP, value-opposite}
use Rattle.primitives.specs.Shapes.{Mesh, mesh_point, value_at_point, HasFreeSide, HasTriangle, IsBehindFace, IsPlaneOfFace, IsPointInRange, IsInside, IsOnOnePlane, MakesShape}
use Rattle.primitives.proofs.lemmas.Moves.{cancelled}
use Rattle.scad_hull.specs.Combinations.{IsInnerCombination}
use Rattle.scad_hull.specs.Hulls.{faces_of_hull, plane_of, AreOnOnePlane}
use Rattle.scad_hull.proofs.Supporting.{all_faces, crossed, has_face, not_nowhere, own, same_zeros, IsSupport, IsTriple}
use Rattle.scad_hull.proofs.lemmas.Inner.{behind_each, inner}
use Rattle.scad_hull.proofs.lemmas.Lines.{cyclic, plane, swapped, value_default, with_direction, zero_by}
use Rattle.scad_hull.proofs.lemmas.Members.{IsAmong, found_at, member}
use Rattle.scad_hull.proofs.Supports.{some_support}
use Rattle.scad_hull.proofs.Tests.{Holds, is_support, shared, Supports, triple}
use Rattle.scad_hull.proofs.lemmas.Turns.{both_signs, nearest, Bounds}

-- ---- a face for three points on a plane that no point is ahead of
abbrev most_all : List (List ℤ) → Coefficients → Type 0
most_all points m = (i : ℕ) → i < length points → value_at_point points m i ≤ℤ pos 0

all_most : (points : List (List ℤ)) (m : Coefficients) → most_all points m → All (λ p. value m (point_at p) ≤ℤ pos 0) points
all_most points m h = λ k d lt. subst (λ (p : List ℤ). value m (point_at p) ≤ℤ pos 0) (get_or_default points k [] d lt) (h k lt)

-- x far = p y, with far below 0
same_side : (x far p y : ℤ) → p *ℤ y ≡ x *ℤ far → far <ℤ pos 0 → p ≤ℤ pos 0 → y <ℤ pos 0 → x ≤ℤ pos 0
same_side x far p y e hf hp hy = elim (signs x) [
  | inl below ↦ omega (arith, sums, below)
  | inr other ↦ elim other [
    | inl none ↦ omega (arith, sums, none)
    | inr above ↦ absurd (omega (arith, sums, e, pos_neg x far above hf, most_most p y hp (omega (arith, sums, hy))))
  ]
]

other_side : (x far p y : ℤ) → p *ℤ y ≡ x *ℤ far → far <ℤ pos 0 → p ≤ℤ pos 0 → pos 0 <ℤ y → pos 0 ≤ℤ x
other_side x far p y e hf hp hy = elim (signs x) [
  | inl below ↦ absurd (omega (arith, sums, e, neg_neg x far below hf, most_least p y hp (omega (arith, sums, hy))))
  | inr other ↦ elim other [ inl none ↦ omega (arith, sums, none) | inr above ↦ omega (arith, sums, above) ]
]

not_zero_below : (x : ℤ) → x <ℤ pos 0 → x ≡ pos 0 → ⊥
not_zero_below x h e = omega (arith, sums, h, e)

no_factor : (x y p f : ℤ) → p *ℤ y ≡ x *ℤ f → y ≡ pos 0 → f <ℤ pos 0 → x ≡ pos 0
no_factor x y p f e hy hf = cancelled f x (not_zero_below f hf) (mul_comm_ℤ f x ∙ sym e ∙ ap (λ (z : ℤ). p *ℤ z) hy ∙ mul_comm_ℤ p (pos 0) ∙ zero_mul p)

opposite_most : (m : Coefficients) (p : Coordinates) → pos 0 ≤ℤ value m p → value (opposite_of m) p ≤ℤ pos 0
opposite_most m p h = omega (arith, sums, value-opposite m p, h)

-- the plane y bounds the points and holds three of them
sided : (points : List (List ℤ)) (i j k : ℕ) → (AreCollinear (mesh_point points i) (mesh_point points j) (mesh_point points k) → ⊥) → (y : Coefficients) → Holds points y i j k → most_all points y → (far : ℕ) → value_at_point points y far <ℤ pos 0 → Supports points i j k
sided points i j k apart y h most far below =
    let t = plane points i j k in
    let f = mesh_point points far in
    let cross : (p : Coordinates) → value y p *ℤ value t f ≡ value t p *ℤ value y f = crossed points i j k apart y t h (own points i j k) f (not_zero_below (value y f) below) in
    record {
      apart = apart;
      side = elim (signs (value t f)) [
        | inl behind ↦ inl (all_most points t (λ n lt. same_side (value_at_point points t n) (value y f) (value_at_point points y n) (value t f) (cross (mesh_point points n)) below (most n lt) behind))
        | inr other ↦ elim other [
          | inl none ↦ absurd (not_nowhere points i j k apart (λ p. no_factor (value t p) (value t f) (value y p) (value y f) (cross p) none below))
          | inr ahead ↦ inr (all_most points (opposite_of t) (λ n lt. opposite_most t (mesh_point points n) (other_side (value_at_point points t n) (value y f) (value_at_point points y n) (value t f) (cross (mesh_point points n)) below (most n lt) ahead)))
        ]
      ];
    }

-- a face whose plane goes through three points
pub record HasFace (points : List (List ℤ)) (i j k : ℕ) : Type 0 where
  pub face : List ℕ
  pub among : IsAmong face (faces_of_hull points)
  pub holds : Holds points (plane_of points face) i j k

sorted : (points : List (List ℤ)) (i j k : ℕ) → i < j → j < k → k < length points → Supports points i j k → HasFace points i j k
sorted points i j k hi hj hk s =
    let f = has_face points i j k hi hj hk (is_support points i j k s) in
    record { face = f.first; among = f.among; holds = shared points f.first i j k f.same }

equal_part : (p q t u : ℤ) → minor (p -ℤ p) (q -ℤ q) t u ≡ pos 0
equal_part p q t u = ring (p ∷ q ∷ t ∷ u ∷ []) (minorP (minus (var 0) (var 0)) (minus (var 1) (var 1)) (var 2) (var 3)) (num (pos 0)) refl

two_equal : (p r : Coordinates) → AreCollinear p p r
two_equal p r = record { a = equal_part p.y p.z _ _; b = equal_part p.z p.x _ _; c = equal_part p.x p.y _ _ }

-- two different numbers of points, of which three aren't on one line
different_first : (points : List (List ℤ)) (i j k : ℕ) → (AreCollinear (mesh_point points i) (mesh_point points j) (mesh_point points k) → ⊥) → i ≡ j → ⊥
different_first points i j k apart e = apart (subst (λ (n : ℕ). AreCollinear (mesh_point points i) (mesh_point points n) (mesh_point points k)) e (two_equal (mesh_point points i) (mesh_point points k)))

swap_last : (points : List (List ℤ)) (i j k : ℕ) → (AreCollinear (mesh_point points i) (mesh_point points j) (mesh_point points k) → ⊥) → AreCollinear (mesh_point points i) (mesh_point points k) (mesh_point points j) → ⊥
swap_last points i j k apart c = apart (swapped (mesh_point points i) (mesh_point points k) (mesh_point points j) c)

last_first : (points : List (List ℤ)) (i j k : ℕ) → (AreCollinear (mesh_point points i) (mesh_point points j) (mesh_point points k) → ⊥) → AreCollinear (mesh_point points k) (mesh_point points i) (mesh_point points j) → ⊥
last_first points i j k apart c = apart (cyclic (mesh_point points k) (mesh_point points i) (mesh_point points j) c)

two_sorted : (points : List (List ℤ)) (i j k : ℕ) → i < j → j < length points → k < length points → (AreCollinear (mesh_point points i) (mesh_point points j) (mesh_point points k) → ⊥) → (y : Coefficients) → Holds points y i j k → most_all points y → (far : ℕ) → value_at_point points y far <ℤ pos 0 → HasFace points i j k
two_sorted points i j k hi hj hk apart y h most far below =
    elim (cases_order j k) [
      | inl same ↦ absurd (different_first points j k i (λ c. last_first points i j k apart (cyclic (mesh_point points j) (mesh_point points k) (mesh_point points i) c)) same)
      | inr other ↦ elim other [
        | inl up ↦ sorted points i j k hi up hk (sided points i j k apart y h most far below)
        | inr down ↦ elim (cases_order i k) [
          | inl same ↦ absurd (different_first points i k j (swap_last points i j k apart) same)
          | inr order ↦ elim order [
            | inl between ↦ (
                let f = sorted points i k j between down hj (sided points i k j (swap_last points i j k apart) y (record { first = h.first; second = h.third; third = h.second }) most far below) in
                record { face = f.face; among = f.among; holds = record { first = f.holds.first; second = f.holds.third; third = f.holds.second } })
            | inr before ↦ (
                let f = sorted points k i j before hi hj (sided points k i j (last_first points i j k apart) y (record { first = h.third; second = h.first; third = h.second }) most far below) in
                record { face = f.face; among = f.among; holds = record { first = f.holds.second; second = f.holds.third; third = f.holds.first } })
          ]
        ]
      ]
    ]

-- three points on a plane that bounds the points have a face
pub face_at : (points : List (List ℤ)) (i j k : ℕ) → i < length points → j < length points → k < length points → (AreCollinear (mesh_point points i) (mesh_point points j) (mesh_point points k) → ⊥) → (y : Coefficients) → Holds points y i j k → most_all points y → (far : ℕ) → value_at_point points y far <ℤ pos 0 → HasFace points i j k
face_at points i j k hi hj hk apart y h most far below =
    elim (cases_order i j) [
      | inl same ↦ absurd (different_first points i j k apart same)
      | inr other ↦ elim other [
        | inl up ↦ two_sorted points i j k up hj hk apart y h most far below
        | inr down ↦ (
            let f = two_sorted points j i k down hi hk (λ c. swap_last points i j k apart (cyclic (mesh_point points j) (mesh_point points i) (mesh_point points k) c)) y (record { first = h.second; second = h.first; third = h.third }) most far below in
            record { face = f.face; among = f.among; holds = record { first = f.holds.second; second = f.holds.first; third = f.holds.third } })
      ]
    ]

-- ---- the plane of a face
abbrev pub hull_mesh : List (List ℤ) → Mesh
hull_mesh points = record { points = points; faces = faces_of_hull points }

all_held : (points : List (List ℤ)) (m : Coefficients) (t : List ℕ) (n : IsTriple (length points) t) → Holds points m n.i n.j n.k → All (λ (i : ℕ). value_at_point points m i ≡ pos 0) t
all_held points m t n h = subst (All (λ (i : ℕ). value_at_point points m i ≡ pos 0)) (sym n.is) (All-from_recursion (λ (i : ℕ). value_at_point points m i ≡ pos 0) (triple n.i n.j n.k) (h.first, (h.second, (h.third, tt))))

held : (points : List (List ℤ)) (m : Coefficients) (t : List ℕ) (n : IsTriple (length points) t) → All (λ (i : ℕ). value_at_point points m i ≡ pos 0) t → Holds points m n.i n.j n.k
held points m t n h =
    let all : All (λ (i : ℕ). value_at_point points m i ≡ pos 0) (triple n.i n.j n.k) = subst (All (λ (i : ℕ). value_at_point points m i ≡ pos 0)) n.is h in
    record { first = all 0 0 (omega arith); second = all 1 0 (omega arith); third = all 2 0 (omega arith) }

opposite_zero : (m : Coefficients) (p : Coordinates) → value m p ≡ pos 0 → value (opposite_of m) p ≡ pos 0
opposite_zero m p h = omega (arith, sums, value-opposite m p, h)

opposite_holds : (points : List (List ℤ)) (m : Coefficients) (i j k : ℕ) → Holds points m i j k → Holds points (opposite_of m) i j k
opposite_holds points m i j k h = record { first = opposite_zero m (mesh_point points i) h.first; second = opposite_zero m (mesh_point points j) h.second; third = opposite_zero m (mesh_point points k) h.third }

opposite_directed : (m : Coefficients) → 0 < unsigned_abs m.a + unsigned_abs m.b + unsigned_abs m.c → 0 < unsigned_abs (opposite_of m).a + unsigned_abs (opposite_of m).b + unsigned_abs (opposite_of m).c
opposite_directed m h = omega (arith, h, size_of_negative m.a, size_of_negative m.b, size_of_negative m.c)

free_side : (points : List (List ℤ)) (t : List ℕ) → IsSupport points t → HasFreeSide points t
free_side points t s =
    let n = s.numbers in
    let m = plane points n.i n.j n.k in
    let directed = with_direction (mesh_point points n.i) (mesh_point points n.j) (mesh_point points n.k) s.supports.apart in
    elim s.supports.side [
      | inl this ↦ record { plane = m; directed = directed; on = all_held points m t n (own points n.i n.j n.k); none_ahead = this }
      | inr other ↦ record { plane = opposite_of m; directed = opposite_directed m directed; on = all_held points (opposite_of m) t n (opposite_holds points m n.i n.j n.k (own points n.i n.j n.k)); none_ahead = other }
    ]

numbers_there : (points : List (List ℤ)) (t : List ℕ) → IsTriple (length points) t → All (λ (i : ℕ). i < length points) t
numbers_there points t n = subst (All (λ (i : ℕ). i < length points)) (sym n.is) (All-from_recursion (λ (i : ℕ). i < length points) (triple n.i n.j n.k) (omega (arith, n.up, n.more, n.below), (omega (arith, n.more, n.below), (n.below, tt))))

faces_there : (points : List (List ℤ)) → All (λ f. All (λ (i : ℕ). i < length points) f) (faces_of_hull points)
faces_there points = λ k d lt. numbers_there points (get_or (faces_of_hull points) k d) (All-from_recursion (IsSupport points) (faces_of_hull points) (all_faces points) k d lt).numbers

face_plane : (points : List (List ℤ)) (t : List ℕ) (f : HasFreeSide points t) → IsPlaneOfFace (hull_mesh points) t f.plane
face_plane points t f = record {
  directed = f.directed;
  on = f.on;
  none_ahead = λ g c hg i d hi. f.none_ahead (get_or (get_or (faces_of_hull points) g c) i d) [] (faces_there points g c hg i d hi);
}

corner_apart : (points : List (List ℤ)) (t : List ℕ) → IsSupport points t → HasTriangle points t
corner_apart points t s =
    let n = s.numbers in
    subst (HasTriangle points) (sym n.is) (record { first = 0; second = 1; third = 2; first_in = omega arith; second_in = omega arith; third_in = omega arith; apart = s.supports.apart })

-- ---- the points of the faces are on no one plane
shifted_value : (a b c d e x y z : ℤ) → a *ℤ x +ℤ b *ℤ y +ℤ c *ℤ z -ℤ (d +ℤ e) *ℤ pos 1 ≡ (a *ℤ x +ℤ b *ℤ y +ℤ c *ℤ z -ℤ d *ℤ pos 1) -ℤ e
shifted_value a b c d e x y z =
    ring (a ∷ b ∷ c ∷ d ∷ e ∷ x ∷ y ∷ z ∷ [])
    (minus (plus (plus (times (var 0) (var 5)) (times (var 1) (var 6))) (times (var 2) (var 7))) (times (plus (var 3) (var 4)) (num (pos 1))))
    (minus (minus (plus (plus (times (var 0) (var 5)) (times (var 1) (var 6))) (times (var 2) (var 7))) (times (var 3) (num (pos 1)))) (var 4)) refl

-- the plane moved so that the value falls by e
abbrev shifted : Coefficients → ℤ → Coefficients
shifted m e = record { a = m.a; b = m.b; c = m.c; d = m.d +ℤ e }

at_shifted : (points : List (List ℤ)) (m : Coefficients) (e : ℤ) (i : ℕ) → value_at_point points (shifted m e) i ≡ value_at_point points m i -ℤ e
at_shifted points m e i = let p = mesh_point points i in shifted_value m.a m.b m.c m.d e p.x p.y p.z

times_one : (x : ℤ) → x *ℤ pos 1 ≡ x
times_one x = ring (x ∷ []) (times (var 0) (num (pos 1))) (var 0) refl

most_after : (x k y : ℤ) → y ≡ x -ℤ k → (x *ℤ pos 1) ≤ℤ (k *ℤ pos 1) → y ≤ℤ pos 0
most_after x k y e h = omega (arith, sums, e, h, times_one x, times_one k)

not_most : (x : ℤ) → x ≤ℤ pos 0 → (x ≡ pos 0 → ⊥) → x <ℤ pos 0
not_most x h n = elim (signs x) [ inl below ↦ below | inr other ↦ elim other [ inl none ↦ absurd (n none) | inr above ↦ absurd (both_signs x h above) ] ]

both_most : (x : ℤ) → x ≤ℤ pos 0 → pos 0 ≤ℤ x → x ≡ pos 0
both_most x h k = omega (arith, sums, h, k)

itself_less : (x y : ℤ) → y ≡ x -ℤ x → pos 0 ≤ℤ y
itself_less x y e = omega (arith, sums, e)

-- a plane that holds all faces, at the point where it is greatest
greatest_on : (points : List (List ℤ)) → (AreOnOnePlane points → ⊥) → (k : Coefficients) → 0 < unsigned_abs k.a + unsigned_abs k.b + unsigned_abs k.c →
    ((t : List ℕ) → IsAmong t (faces_of_hull points) → All (λ (i : ℕ). value_at_point points k i ≡ pos 0) t) → (r : ℕ) → r < length points → ((i : ℕ) → i < length points → (value_at_point points k i *ℤ pos 1) ≤ℤ (value_at_point points k r *ℤ pos 1)) → (value_at_point points k r ≡ pos 0 → ⊥) → ⊥
greatest_on points solid k directed on r hr greatest off =
    let x = shifted k (value_at_point points k r) in
    let R = mesh_point points r in
    solid (record {
      plane = x;
      directed = directed;
      on = λ s d lt. value_default points x s d lt (zero_by (value_at_point points x s) (λ away.
          some_support points R solid x (record {
            most = λ i hi. most_after (value_at_point points k i) (value_at_point points k r) (value_at_point points x i) (at_shifted points k (value_at_point points k r) i) (greatest i hi);
            at = itself_less (value_at_point points k r) (value_at_point points x r) (at_shifted points k (value_at_point points k r) r);
            far = s;
            far_in = lt;
            behind = not_most (value_at_point points x s) (most_after (value_at_point points k s) (value_at_point points k r) (value_at_point points x s) (at_shifted points k (value_at_point points k r) s) (greatest s lt)) away;
          }) (λ a b c ha hb hc apart y bounds ea eb ec.
          let h : Holds points y a b c = record { first = ea; second = eb; third = ec } in
          let f = face_at points a b c ha hb hc apart y h bounds.most bounds.far bounds.behind in
          let support : IsSupport points f.face = member (IsSupport points) f.face (faces_of_hull points) (all_faces points) f.among in
          let n = support.numbers in
          let here : value y R ≡ pos 0 = both_most (value y R) (bounds.most r hr) bounds.at in
          let there : value (plane_of points f.face) R ≡ pos 0 = same_zeros points a b c apart (plane_of points f.face) y f.holds h (λ all. not_zero_below (value_at_point points y bounds.far) bounds.behind (all (mesh_point points bounds.far))) R here in
          off (same_zeros points n.i n.j n.k support.supports.apart k (plane points n.i n.j n.k) (held points k f.face n (on f.face f.among)) (own points n.i n.j n.k) (not_nowhere points n.i n.j n.k support.supports.apart) R
          (subst (λ u. value (plane_of points u) R ≡ pos 0) n.is there)))));
    })

above_one : pos 0 <ℤ pos 1
above_one = omega (arith, sums)

-- such a plane is nowhere above 0 on the points
most_on : (points : List (List ℤ)) → (AreOnOnePlane points → ⊥) → (k : Coefficients) → 0 < unsigned_abs k.a + unsigned_abs k.b + unsigned_abs k.c → ((t : List ℕ) → IsAmong t (faces_of_hull points) → All (λ (i : ℕ). value_at_point points k i ≡ pos 0) t) → most_all points k
most_on points solid k directed on i hi = elim (nearest (λ (j : ℕ). value_at_point points k j) (λ (j : ℕ). pos 1) (length points)) [
  | inl none ↦ absurd (both_signs (pos 1) (none i hi) above_one)
  | inr g ↦ (
      let greatest : (j : ℕ) → j < length points → (value_at_point points k j *ℤ pos 1) ≤ℤ (value_at_point points k g.k *ℤ pos 1) = λ j lt. g.least j lt above_one in
      let zero_there : value_at_point points k g.k ≡ pos 0 = zero_by (value_at_point points k g.k) (greatest_on points solid k directed on g.k g.k_in greatest) in
      omega (arith, sums, zero_there, times_one (value_at_point points k i), times_one (value_at_point points k g.k), greatest i hi))
]

pub not_flat : (points : List (List ℤ)) → (AreOnOnePlane points → ⊥) → IsOnOnePlane (hull_mesh points) → ⊥
not_flat points solid flat =
    let k = flat.plane in
    let on : (t : List ℕ) → IsAmong t (faces_of_hull points) → All (λ (i : ℕ). value_at_point points k i ≡ pos 0) t = λ t m.
    (let f = found_at t (faces_of_hull points) m in subst (All (λ (i : ℕ). value_at_point points k i ≡ pos 0)) (f.is []) (flat.on f.place [] f.within)) in
    let other : (t : List ℕ) → IsAmong t (faces_of_hull points) → All (λ (i : ℕ). value_at_point points (opposite_of k) i ≡ pos 0) t = λ t m i d lt. opposite_zero k (mesh_point points (get_or t i d)) (on t m i d lt) in
    let most = most_on points solid k flat.directed on in
    let least = most_on points solid (opposite_of k) (opposite_directed k flat.directed) other in
    solid (record {
      plane = k;
      directed = flat.directed;
      on = λ i d lt. value_default points k i d lt (both_most (value_at_point points k i) (most i lt) (omega (arith, sums, value-opposite k (mesh_point points i), least i lt)));
    })

some_of : {X : Type 0} (xs : List X) → (length xs ≡ 0 → ⊥) → 0 < length xs
some_of [] h = absurd (h refl)
some_of (x ∷ xs) h = omega arith

some_faces : (points : List (List ℤ)) → (IsOnOnePlane (hull_mesh points) → ⊥) → 0 < length (faces_of_hull points)
some_faces points h = some_of (faces_of_hull points) (λ e. h (record { plane = record { a = pos 1; b = pos 0; c = pos 0; d = pos 0 }; directed = omega arith; on = λ k d lt. absurd (omega (arith, lt, e)) }))

-- the hull of points that aren't on one plane makes a shape
pub makes_shape : (points : List (List ℤ)) → All (λ p. IsPointInRange (point_at p)) points → (AreOnOnePlane points → ⊥) → MakesShape (hull_mesh points)
makes_shape points range solid =
    let each = All-from_recursion (IsSupport points) (faces_of_hull points) (all_faces points) in
    record {
      range = range;
      some = some_faces points (not_flat points solid);
      there = faces_there points;
      triangles = λ k d lt. corner_apart points (get_or (faces_of_hull points) k d) (each k d lt);
      sides = λ k d lt. free_side points (get_or (faces_of_hull points) k d) (each k d lt);
      solid = not_flat points solid;
    }

-- ---- the theorem
below_by : (x : ℤ) → ((x <ℤ pos 0 → ⊥) → ⊥) → x <ℤ pos 0
below_by x h = elim (signs x) [ inl below ↦ below | inr other ↦ absurd (h (λ b. elim other [ inl none ↦ absurd (not_zero_below x b none) | inr above ↦ absurd (both_signs x (omega (arith, sums, b)) above) ])) ]

-- a plane through three points, that no point is ahead of, is strictly ahead of some point
some_behind : (points : List (List ℤ)) → (AreOnOnePlane points → ⊥) → (m : Coefficients) → 0 < unsigned_abs m.a + unsigned_abs m.b + unsigned_abs m.c → All (λ p. value m (point_at p) ≤ℤ pos 0) points → ((s : ℕ) → s < length points → value_at_point points m s <ℤ pos 0 → ⊥) → ⊥
some_behind points solid m directed most none =
    solid (record { plane = m; directed = directed; on = λ s d lt. value_default points m s d lt (zero_by (value_at_point points m s) (λ off. none s lt (not_most (value_at_point points m s) (most s [] lt) off))) })

inside_by_combination : (points : List (List ℤ)) → (AreOnOnePlane points → ⊥) → (q : Coordinates) → pos 0 <ℤ q.w → IsInnerCombination points q → IsInside (hull_mesh points) q
inside_by_combination points solid q hw c = λ k d lt.
    (let t = get_or (faces_of_hull points) k d in
    let f = free_side points t (All-from_recursion (IsSupport points) (faces_of_hull points) (all_faces points) k d lt) in
    record {
      plane = f.plane;
      is = face_plane points t f;
      behind = below_by (value f.plane q) (λ no. some_behind points solid f.plane f.directed f.none_ahead (λ s hs below. no (behind_each points q hw c f.plane f.none_ahead s hs below)));
    })

neg_above : (x y : ℤ) → x <ℤ pos 0 → pos 0 <ℤ y → (x *ℤ y) <ℤ pos 0
neg_above x y h k = neg_pos x y h k

-- m is below 0 at q and v, y is at most 0 at v and at least 0 at q
opposed : (mv yq yv mq : ℤ) → mv *ℤ yq ≡ yv *ℤ mq → mv <ℤ pos 0 → mq <ℤ pos 0 → yv ≤ℤ pos 0 → pos 0 ≤ℤ yq → yq ≡ pos 0
opposed mv yq yv mq e hv hq hy hp = elim (signs yq) [
  | inl below ↦ absurd (omega (arith, sums, below, hp))
  | inr other ↦ elim other [ inl none ↦ none | inr above ↦ absurd (omega (arith, sums, e, neg_above mv yq hv above, most_most yv mq hy (omega (arith, sums, hq)))) ]
]

-- a plane through the points of a face, with no point of a face ahead, and q strictly behind
no_support_by : (points : List (List ℤ)) → (AreOnOnePlane points → ⊥) → (q : Coordinates) → (t : List ℕ) → IsSupport points t → IsBehindFace (hull_mesh points) q t → (a b c : ℕ) → (AreCollinear (mesh_point points a) (mesh_point points b) (mesh_point points c) → ⊥) →
    (y : Coefficients) → Bounds (mesh_point points) (length points) q y → Holds points y a b c → Holds points (plane_of points t) a b c → ⊥
no_support_by points solid q t s behind a b c apart y bounds h g =
    let n = s.numbers in
    let m = behind.plane in
    let T = plane points n.i n.j n.k in
    let g_too : Holds points T a b c = subst (λ u. Holds points (plane_of points u) a b c) n.is g in
    let y_at : (p : Coordinates) → value T p ≡ pos 0 → value y p ≡ pos 0 = same_zeros points a b c apart y T h g_too (not_nowhere points n.i n.j n.k s.supports.apart) in
    let o = own points n.i n.j n.k in
    let y_holds : Holds points y n.i n.j n.k = record { first = y_at (mesh_point points n.i) o.first; second = y_at (mesh_point points n.j) o.second; third = y_at (mesh_point points n.k) o.third } in
    let cross : (p : Coordinates) → value m p *ℤ value y q ≡ value y p *ℤ value m q = crossed points n.i n.j n.k s.supports.apart m y (held points m t n behind.is.on) y_holds q (not_zero_below (value m q) behind.behind) in
    not_flat points solid (record {
      plane = m;
      directed = behind.is.directed;
      on = λ f d hf i e hi.
          let v = get_or (get_or (faces_of_hull points) f d) i e in
          zero_by (value_at_point points m v) (λ off.
          let none : value y q ≡ pos 0 = opposed (value_at_point points m v) (value y q) (value_at_point points y v) (value m q) (cross (mesh_point points v)) (not_most (value_at_point points m v) (behind.is.none_ahead f d hf i e hi) off) behind.behind (bounds.most v (faces_there points f d hf i e hi)) bounds.at in
          let far = mesh_point points bounds.far in
          not_zero_below (value y far) bounds.behind (cancelled (value m q) (value y far) (not_zero_below (value m q) behind.behind)
          (mul_comm_ℤ (value m q) (value y far) ∙ sym (cross far) ∙ ap (λ (z : ℤ). value m far *ℤ z) none ∙ mul_comm_ℤ (value m far) (pos 0) ∙ zero_mul (value m far))));
    })

combination_by_inside : (points : List (List ℤ)) → (AreOnOnePlane points → ⊥) → (q : Coordinates) → IsInside (hull_mesh points) q → IsInnerCombination points q
combination_by_inside points solid q inside =
    inner points q solid (λ a b c ha hb hc apart y bounds ea eb ec.
    let h : Holds points y a b c = record { first = ea; second = eb; third = ec } in
    let f = face_at points a b c ha hb hc apart y h bounds.most bounds.far bounds.behind in
    let at = found_at f.face (faces_of_hull points) f.among in
    no_support_by points solid q f.face (member (IsSupport points) f.face (faces_of_hull points) (all_faces points) f.among) (subst (IsBehindFace (hull_mesh points) q) (at.is []) (inside at.place [] at.within)) a b c apart y bounds h f.holds)

-- a point is strictly behind all faces exactly where it is an inner combination
pub inside_where_combined : (points : List (List ℤ)) → (AreOnOnePlane points → ⊥) → (q : Coordinates) → pos 0 <ℤ q.w → IsInside (hull_mesh points) q ↔ IsInnerCombination points q
inside_where_combined points solid q hw = (combination_by_inside points solid q, inside_by_combination points solid q hw)
