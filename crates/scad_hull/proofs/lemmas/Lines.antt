-- Points on one line, and the planes through three points.
use Rattle.std.proofs.Common.{◌≡◌, ◌⊎◌, inl, inr, [], ◌∷◌, List, get_or, length, ◌<◌, ◌+◌, refl, sym, ◌∙◌, subst, arith, ℤ, pos, negsuc, ◌+ℤ◌, ◌-ℤ◌, ◌*ℤ◌, ℕ, zero, suc, unsigned_abs}
use Rattle.std.proofs.lemmas.List.{get_or_default}
use Rattle.plane_predicate.specs.Space.{Coefficients, Coordinates, point_at, value, plane_of_points, minor, AreCollinear}
use Rattle.plane_predicate.proofs.lemmas.IntegerRing.{sums}
use Rattle.plane_predicate.proofs.lemmas.Polynomials.{var, num, plus, times, minus, ring}
use Rattle.plane_predicate.proofs.lemmas.Vectors.{minorP, valueP}
use Rattle.primitives.specs.Shapes.{mesh_point, value_at_point}
use Rattle.primitives.proofs.lemmas.Moves.{throughP, whole, wholeP}
use Rattle.primitives.proofs.lemmas.OnePlane.{some_direction}
use Rattle.scad_hull.specs.Hulls.{AreOnOnePlane}
use Rattle.scad_hull.proofs.lemmas.Turns.{last_or_below}

pub zero_by : (x : ℤ) → ((x ≡ pos 0 → ⊥) → ⊥) → x ≡ pos 0
zero_by (pos zero) h = λ i. pos zero
zero_by (pos (suc n)) h = absurd (h (λ e. omega (arith, sums, e)))
zero_by (negsuc n) h = absurd (h (λ e. omega (arith, sums, e)))

-- ---- the three points are on the plane through them
on_first : (a b c d e f g h i : ℤ) → value (plane_of_points (whole a b c) (whole d e f) (whole g h i)) (whole a b c) ≡ pos 0
on_first a b c d e f g h i = ring (a ∷ b ∷ c ∷ d ∷ e ∷ f ∷ g ∷ h ∷ i ∷ []) (valueP (throughP (wholeP 0) (wholeP 3) (wholeP 6)) (wholeP 0)) (num (pos 0)) refl

on_second : (a b c d e f g h i : ℤ) → value (plane_of_points (whole a b c) (whole d e f) (whole g h i)) (whole d e f) ≡ pos 0
on_second a b c d e f g h i = ring (a ∷ b ∷ c ∷ d ∷ e ∷ f ∷ g ∷ h ∷ i ∷ []) (valueP (throughP (wholeP 0) (wholeP 3) (wholeP 6)) (wholeP 3)) (num (pos 0)) refl

on_third : (a b c d e f g h i : ℤ) → value (plane_of_points (whole a b c) (whole d e f) (whole g h i)) (whole g h i) ≡ pos 0
on_third a b c d e f g h i = ring (a ∷ b ∷ c ∷ d ∷ e ∷ f ∷ g ∷ h ∷ i ∷ []) (valueP (throughP (wholeP 0) (wholeP 3) (wholeP 6)) (wholeP 6)) (num (pos 0)) refl

-- one of the points, as three numbers
abbrev pub at : List (List ℤ) → ℕ → ℕ → ℤ
at points i n = get_or (get_or points i []) n (pos 0)

-- the plane through three of the points
abbrev pub plane : List (List ℤ) → ℕ → ℕ → ℕ → Coefficients
plane points i j k = plane_of_points (mesh_point points i) (mesh_point points j) (mesh_point points k)

pub holds_first : (points : List (List ℤ)) (i j k : ℕ) → value_at_point points (plane points i j k) i ≡ pos 0
holds_first points i j k = on_first (at points i 0) (at points i 1) (at points i 2) (at points j 0) (at points j 1) (at points j 2) (at points k 0) (at points k 1) (at points k 2)

pub holds_second : (points : List (List ℤ)) (i j k : ℕ) → value_at_point points (plane points i j k) j ≡ pos 0
holds_second points i j k = on_second (at points i 0) (at points i 1) (at points i 2) (at points j 0) (at points j 1) (at points j 2) (at points k 0) (at points k 1) (at points k 2)

pub holds_third : (points : List (List ℤ)) (i j k : ℕ) → value_at_point points (plane points i j k) k ≡ pos 0
holds_third points i j k = on_third (at points i 0) (at points i 1) (at points i 2) (at points j 0) (at points j 1) (at points j 2) (at points k 0) (at points k 1) (at points k 2)

-- ---- three points on one line, in another order
cyclic_part : (p q r s t u : ℤ) → minor (r -ℤ p) (s -ℤ q) (t -ℤ p) (u -ℤ q) ≡ minor (t -ℤ r) (u -ℤ s) (p -ℤ r) (q -ℤ s)
cyclic_part p q r s t u =
    ring (p ∷ q ∷ r ∷ s ∷ t ∷ u ∷ []) (minorP (minus (var 2) (var 0)) (minus (var 3) (var 1)) (minus (var 4) (var 0)) (minus (var 5) (var 1))) (minorP (minus (var 4) (var 2)) (minus (var 5) (var 3)) (minus (var 0) (var 2)) (minus (var 1) (var 3))) refl

pub cyclic : (p q r : Coordinates) → AreCollinear p q r → AreCollinear q r p
cyclic p q r h = record { a = sym (cyclic_part p.y p.z q.y q.z r.y r.z) ∙ h.a; b = sym (cyclic_part p.z p.x q.z q.x r.z r.x) ∙ h.b; c = sym (cyclic_part p.x p.y q.x q.y r.x r.y) ∙ h.c }

swapped_part : (a b c d : ℤ) → minor c d a b ≡ pos 0 -ℤ minor a b c d
swapped_part a b c d = ring (a ∷ b ∷ c ∷ d ∷ []) (minorP (var 2) (var 3) (var 0) (var 1)) (minus (num (pos 0)) (minorP (var 0) (var 1) (var 2) (var 3))) refl

no_opposite : (x y : ℤ) → y ≡ pos 0 -ℤ x → x ≡ pos 0 → y ≡ pos 0
no_opposite x y e h = omega (arith, sums, e, h)

pub swapped : (p q r : Coordinates) → AreCollinear p q r → AreCollinear p r q
swapped p q r h = record {
  a = no_opposite _ _ (swapped_part (q.y -ℤ p.y) (q.z -ℤ p.z) (r.y -ℤ p.y) (r.z -ℤ p.z)) h.a;
  b = no_opposite _ _ (swapped_part (q.z -ℤ p.z) (q.x -ℤ p.x) (r.z -ℤ p.z) (r.x -ℤ p.x)) h.b;
  c = no_opposite _ _ (swapped_part (q.x -ℤ p.x) (q.y -ℤ p.y) (r.x -ℤ p.x) (r.y -ℤ p.y)) h.c;
}

-- ---- a point on the line through two points is on each plane through them
mixed : (a b c d e f g h i x y z : ℤ) → let A = whole a b c in let B = whole d e f in let C = whole g h i in let K = whole x y z in let t = plane_of_points A B K in
    value (plane_of_points A B C) K ≡ pos 0 -ℤ (t.a *ℤ (g -ℤ a) +ℤ t.b *ℤ (h -ℤ b) +ℤ t.c *ℤ (i -ℤ c))
mixed a b c d e f g h i x y z =
    let A = wholeP 0 in let B = wholeP 3 in let C = wholeP 6 in let K = wholeP 9 in let t = throughP A B K in
    ring (a ∷ b ∷ c ∷ d ∷ e ∷ f ∷ g ∷ h ∷ i ∷ x ∷ y ∷ z ∷ []) (valueP (throughP A B C) K)
    (minus (num (pos 0)) (plus (plus (times t.a (minus (var 6) (var 0))) (times t.b (minus (var 7) (var 1)))) (times t.c (minus (var 8) (var 2))))) refl

no_terms : (u v w x y z : ℤ) → u ≡ pos 0 → v ≡ pos 0 → w ≡ pos 0 → pos 0 -ℤ (u *ℤ x +ℤ v *ℤ y +ℤ w *ℤ z) ≡ pos 0
no_terms u v w x y z eu ev ew = rw (eu, ev, ew) (ring (x ∷ y ∷ z ∷ []) (minus (num (pos 0)) (plus (plus (times (num (pos 0)) (var 0)) (times (num (pos 0)) (var 1))) (times (num (pos 0)) (var 2)))) (num (pos 0)) refl)

pub in_plane : (points : List (List ℤ)) (i j k s : ℕ) → AreCollinear (mesh_point points i) (mesh_point points j) (mesh_point points s) → value_at_point points (plane points i j k) s ≡ pos 0
in_plane points i j k s h =
    mixed (at points i 0) (at points i 1) (at points i 2) (at points j 0) (at points j 1) (at points j 2) (at points k 0) (at points k 1) (at points k 2) (at points s 0) (at points s 1) (at points s 2)
    ∙ no_terms _ _ _ _ _ _ h.a h.b h.c

-- ---- points that aren't on one plane
pub with_direction : (p q r : Coordinates) → (AreCollinear p q r → ⊥) → 0 < unsigned_abs (plane_of_points p q r).a + unsigned_abs (plane_of_points p q r).b + unsigned_abs (plane_of_points p q r).c
with_direction p q r apart = some_direction _ _ _ (λ ea eb ec. apart (record { a = ea; b = eb; c = ec }))

-- the value at a point, whatever stands past the end of the list
pub value_default : (points : List (List ℤ)) (m : Coefficients) (k : ℕ) (d : List ℤ) → k < length points → value_at_point points m k ≡ pos 0 → value m (point_at (get_or points k d)) ≡ pos 0
value_default points m k d lt h = subst (λ (p : List ℤ). value m (point_at p) ≡ pos 0) (get_or_default points k [] d lt) h

-- some point is off the plane through three points that are not on one line
pub some_off : (points : List (List ℤ)) → (AreOnOnePlane points → ⊥) → (i j k : ℕ) → (AreCollinear (mesh_point points i) (mesh_point points j) (mesh_point points k) → ⊥) → ((s : ℕ) → s < length points → (value_at_point points (plane points i j k) s ≡ pos 0 → ⊥) → ⊥) → ⊥
some_off points solid i j k apart none =
    solid (record {
      plane = plane points i j k;
      directed = with_direction (mesh_point points i) (mesh_point points j) (mesh_point points k) apart;
      on = λ s d lt. value_default points (plane points i j k) s d lt (zero_by (value_at_point points (plane points i j k) s) (none s lt));
    })

-- ---- points on one line are on one plane
pub is_other : (x : ℤ) → (x ≡ pos 0) ⊎ (x ≡ pos 0 → ⊥)
is_other (pos zero) = inl refl
is_other (pos (suc n)) = inr (λ e. omega (arith, sums, e))
is_other (negsuc n) = inr (λ e. omega (arith, sums, e))

-- a number other than 0 among the first ones, if there is any
pub some_other : (f : ℕ → ℤ) (n : ℕ) → ((i : ℕ) → i < n → f i ≡ pos 0) ⊎ ((i : ℕ) × (i < n) × (f i ≡ pos 0 → ⊥))
some_other f zero = inl (λ i lt. absurd (omega (arith, lt)))
some_other f (suc n) = elim (some_other f n) [
  | inr s ↦ inr (s.0, omega (arith, s.1), s.2)
  | inl none ↦ elim (is_other (f n)) [
    | inl here ↦ inl (λ i lt. elim (last_or_below i n lt) [ inl l ↦ none i l | inr e ↦ subst (λ (j : ℕ). f j ≡ pos 0) (sym e) here ])
    | inr off ↦ inr (n, omega arith, off)
  ]
]

-- the plane through point i and point s that is along the x axis, at point k: the first part of the direction through the three
along_x : (a b c d e f x y z : ℤ) → value (record { a = pos 0; b = f -ℤ c; c = b -ℤ e; d = (f -ℤ c) *ℤ b +ℤ (b -ℤ e) *ℤ c }) (whole x y z) ≡ pos 0 -ℤ minor (e -ℤ b) (f -ℤ c) (y -ℤ b) (z -ℤ c)
along_x a b c d e f x y z =
    ring (a ∷ b ∷ c ∷ d ∷ e ∷ f ∷ x ∷ y ∷ z ∷ [])
    (valueP (record { a = num (pos 0); b = minus (var 5) (var 2); c = minus (var 1) (var 4); d = plus (times (minus (var 5) (var 2)) (var 1)) (times (minus (var 1) (var 4)) (var 2)) }) (record { x = var 6; y = var 7; z = var 8; w = num (pos 1) }))
    (minus (num (pos 0)) (minorP (minus (var 4) (var 1)) (minus (var 5) (var 2)) (minus (var 7) (var 1)) (minus (var 8) (var 2)))) refl

no_difference : (x y : ℤ) → x -ℤ y ≡ pos 0 → x ≡ y
no_difference x y e = omega (arith, sums, e)

turned_difference : (x y : ℤ) → y -ℤ x ≡ pos 0 → x -ℤ y ≡ pos 0
turned_difference x y e = omega (arith, sums, e)

-- where all points have the y of the first one
level : (b x y z : ℤ) → y ≡ b → value (record { a = pos 0; b = pos 1; c = pos 0; d = b }) (whole x y z) ≡ pos 0
level b x y z e =
    ring (b ∷ x ∷ y ∷ z ∷ []) (valueP (record { a = num (pos 0); b = num (pos 1); c = num (pos 0); d = var 0 }) (record { x = var 1; y = var 2; z = var 3; w = num (pos 1) })) (minus (var 2) (var 0)) refl
    ∙ omega (arith, sums, e)

all_on : (points : List (List ℤ)) (m : Coefficients) → 0 < unsigned_abs m.a + unsigned_abs m.b + unsigned_abs m.c → ((k : ℕ) → k < length points → value_at_point points m k ≡ pos 0) → AreOnOnePlane points
all_on points m directed h = record { plane = m; directed = directed; on = λ k d lt. value_default points m k d lt (h k lt) }

-- all points are on lines through point i and point s
abbrev pub AreOnLines : List (List ℤ) → ℕ → Type 0
AreOnLines points i = (s k : ℕ) → s < length points → k < length points → AreCollinear (mesh_point points i) (mesh_point points s) (mesh_point points k)

beside : (points : List (List ℤ)) (i s : ℕ) → s < length points → AreOnLines points i → (at points s 2 -ℤ at points i 2 ≡ pos 0 → at points i 1 -ℤ at points s 1 ≡ pos 0 → ⊥) → AreOnOnePlane points
beside points i s s_in h off =
    let b = at points i 1 in let c = at points i 2 in let e = at points s 1 in let f = at points s 2 in
    all_on points (record { a = pos 0; b = f -ℤ c; c = b -ℤ e; d = (f -ℤ c) *ℤ b +ℤ (b -ℤ e) *ℤ c }) (some_direction (pos 0) (f -ℤ c) (b -ℤ e) (λ ea eb ec. off eb ec))
    (λ k lt. along_x (at points i 0) b c (at points s 0) e f (at points k 0) (at points k 1) (at points k 2) ∙ no_opposite (minor (e -ℤ b) (f -ℤ c) (at points k 1 -ℤ b) (at points k 2 -ℤ c)) _ refl (h s k s_in lt).a)

-- where all points are on one line with point i
pub on_one_plane : (points : List (List ℤ)) (i : ℕ) → AreOnLines points i → AreOnOnePlane points
on_one_plane points i h =
    elim (some_other (λ (s : ℕ). at points s 2 -ℤ at points i 2) (length points)) [
      | inr s ↦ beside points i s.0 s.1 h (λ ez ey. s.2 ez)
      | inl none ↦ elim (some_other (λ (s : ℕ). at points i 1 -ℤ at points s 1) (length points)) [
        | inr s ↦ beside points i s.0 s.1 h (λ ez ey. s.2 ey)
        | inl flat ↦ all_on points (record { a = pos 0; b = pos 1; c = pos 0; d = at points i 1 }) (omega arith)
            (λ k lt. level (at points i 1) (at points k 0) (at points k 1) (at points k 2) (sym (no_difference (at points i 1) (at points k 1) (flat k lt))))
      ]
    ]

-- three points are on one line, if that isn't impossible
pub collinear_by : (p q r : Coordinates) → ((AreCollinear p q r → ⊥) → ⊥) → AreCollinear p q r
collinear_by p q r h = record {
  a = zero_by (plane_of_points p q r).a (λ n. h (λ c. n c.a));
  b = zero_by (plane_of_points p q r).b (λ n. h (λ c. n c.b));
  c = zero_by (plane_of_points p q r).c (λ n. h (λ c. n c.c));
}

-- points that aren't on one plane have three that aren't on one line
pub some_triangle : (points : List (List ℤ)) → (AreOnOnePlane points → ⊥) → ((i j k : ℕ) → i < length points → j < length points → k < length points → (AreCollinear (mesh_point points i) (mesh_point points j) (mesh_point points k) → ⊥) → ⊥) → ⊥
some_triangle [] solid none = solid (all_on [] (record { a = pos 1; b = pos 0; c = pos 0; d = pos 0 }) (omega arith) (λ k lt. absurd (omega (arith, lt))))
some_triangle (p ∷ points) solid none =
    solid (on_one_plane (p ∷ points) 0 (λ s k s_in k_in. collinear_by (mesh_point (p ∷ points) 0) (mesh_point (p ∷ points) s) (mesh_point (p ∷ points) k) (none 0 s k (omega arith) s_in k_in)))
