-- The plane through three points.
use Rattle.std.proofs.Common.{◌≡◌, ◌↔◌, ℕ, zero, suc, ◌+◌, ◌*◌, ◌<◌, ◌≤◌, [], ◌∷◌, refl, sym, ◌∙◌, arith, ℤ, pos, ◌+ℤ◌, ◌-ℤ◌, ◌*ℤ◌, unsigned_abs, Option, Some, None, IfSome}
use Rattle.plane_predicate.specs.Space.{Coefficients, Coordinates, value, plane_of_points, AreCollinear, AreQuotients, IsPlane, IsPlaneTimes}
use Rattle.plane_predicate.proofs.lemmas.Polynomials.{var, num, plus, times, minus, ring}
use Rattle.plane_predicate.proofs.lemmas.Vectors.{Form, Place, minorP, valueP}
use Rattle.plane_predicate.proofs.lemmas.Signs.{zero_cancel}
use Rattle.plane_predicate.proofs.lemmas.Divisions.{quotient_most, quotient_size, above_positive}

-- the point with whole coordinates
abbrev pub whole : ℤ → ℤ → ℤ → Coordinates
whole x y z = record { x = x; y = y; z = z; w = pos 1 }

abbrev pub throughP : Form
throughP =
    let a = minorP (minus (var 4) (var 1)) (minus (var 5) (var 2)) (minus (var 7) (var 1)) (minus (var 8) (var 2)) in
    let b = minorP (minus (var 5) (var 2)) (minus (var 3) (var 0)) (minus (var 8) (var 2)) (minus (var 6) (var 0)) in
    let c = minorP (minus (var 3) (var 0)) (minus (var 4) (var 1)) (minus (var 6) (var 0)) (minus (var 7) (var 1)) in
    record { a = a; b = b; c = c; d = plus (plus (times a (var 0)) (times b (var 1))) (times c (var 2)) }

abbrev pub wholeP : ℕ → Place
wholeP i = record { x = var i; y = var (i + 1); z = var (i + 2); w = num (pos 1) }

on_first : (a b c d e f g h i : ℤ) → value (plane_of_points (whole a b c) (whole d e f) (whole g h i)) (whole a b c) ≡ pos 0
on_first a b c d e f g h i = ring (a ∷ b ∷ c ∷ d ∷ e ∷ f ∷ g ∷ h ∷ i ∷ []) (valueP throughP (wholeP 0)) (num (pos 0)) refl

on_second : (a b c d e f g h i : ℤ) → value (plane_of_points (whole a b c) (whole d e f) (whole g h i)) (whole d e f) ≡ pos 0
on_second a b c d e f g h i = ring (a ∷ b ∷ c ∷ d ∷ e ∷ f ∷ g ∷ h ∷ i ∷ []) (valueP throughP (wholeP 3)) (num (pos 0)) refl

on_third : (a b c d e f g h i : ℤ) → value (plane_of_points (whole a b c) (whole d e f) (whole g h i)) (whole g h i) ≡ pos 0
on_third a b c d e f g h i = ring (a ∷ b ∷ c ∷ d ∷ e ∷ f ∷ g ∷ h ∷ i ∷ []) (valueP throughP (wholeP 6)) (num (pos 0)) refl

-- a plane and its multiple have the same points
factored : (k a b c d x y z w : ℤ) → (k *ℤ a) *ℤ x +ℤ (k *ℤ b) *ℤ y +ℤ (k *ℤ c) *ℤ z -ℤ (k *ℤ d) *ℤ w ≡ k *ℤ (a *ℤ x +ℤ b *ℤ y +ℤ c *ℤ z -ℤ d *ℤ w)
factored k a b c d x y z w =
    ring (k ∷ a ∷ b ∷ c ∷ d ∷ x ∷ y ∷ z ∷ w ∷ [])
    (minus (plus (plus (times (times (var 0) (var 1)) (var 5)) (times (times (var 0) (var 2)) (var 6))) (times (times (var 0) (var 3)) (var 7))) (times (times (var 0) (var 4)) (var 8)))
    (times (var 0) (minus (plus (plus (times (var 1) (var 5)) (times (var 2) (var 6))) (times (var 3) (var 7))) (times (var 4) (var 8)))) refl

pub value_times : (m n : Coefficients) (h : IsPlaneTimes m n) (p : Coordinates) → value m p ≡ h.by *ℤ value n p
value_times m n h p = rw (h.a, h.b, h.c, h.d) (factored h.by n.a n.b n.c n.d p.x p.y p.z p.w)

pub on_times : (m n : Coefficients) → IsPlaneTimes m n → (p : Coordinates) → value m p ≡ pos 0 → value n p ≡ pos 0
on_times m n h p e = zero_cancel h.by (value n p) h.above (sym (value_times m n h p) ∙ e)

pub through_on : (a b c d e f g h i : ℤ) (m : Coefficients) → IsPlaneTimes (plane_of_points (whole a b c) (whole d e f) (whole g h i)) m → (value m (whole a b c) ≡ pos 0) × (value m (whole d e f) ≡ pos 0) × (value m (whole g h i) ≡ pos 0)
through_on a b c d e f g h i m t = (
  on_times _ m t (whole a b c) (on_first a b c d e f g h i),
  on_times _ m t (whole d e f) (on_second a b c d e f g h i),
  on_times _ m t (whole g h i) (on_third a b c d e f g h i),
)

-- ---- the reduced plane
pub same_quotients : (x y z w e f g h a b c d : ℤ) → x ≡ e → y ≡ f → z ≡ g → w ≡ h → AreQuotients x y z w a b c d → AreQuotients e f g h a b c d
same_quotients x y z w e f g h a b c d ex ey ez ew q = record { factor = q.factor; above = q.above; x_is = sym ex ∙ q.x_is; y_is = sym ey ∙ q.y_is; z_is = sym ez ∙ q.z_is; w_is = sym ew ∙ q.w_is; no_factor = q.no_factor }

no_product : (by n : ℕ) → n ≡ 0 → by * n ≡ 0
no_product by n e = rw e (omega arith)

some_quotient : (by x y z a b c : ℕ) → x ≡ by * a → y ≡ by * b → z ≡ by * c → 0 < x + y + z → 0 < a + b + c
some_quotient by x y z zero zero zero ex ey ez h = absurd (omega (arith, no_product by zero refl))
some_quotient by x y z (suc a) b c ex ey ez h = omega arith
some_quotient by x y z zero (suc b) c ex ey ez h = omega arith
some_quotient by x y z zero zero (suc c) ex ey ez h = omega arith

pub reduced_is_plane : (a b c d : ℤ) (n : Coefficients) → unsigned_abs a ≤ 134152200 → unsigned_abs b ≤ 134152200 → unsigned_abs c ≤ 134152200 → unsigned_abs d ≤ 1648059777000 → 0 < unsigned_abs a + unsigned_abs b + unsigned_abs c →
    AreQuotients a b c d n.a n.b n.c n.d → IsPlane n
reduced_is_plane a b c d n ha hb hc hd h q = record {
  a_size = quotient_most a n.a q.factor _ q.above q.x_is ha;
  b_size = quotient_most b n.b q.factor _ q.above q.y_is hb;
  c_size = quotient_most c n.c q.factor _ q.above q.z_is hc;
  d_size = quotient_most d n.d q.factor _ q.above q.w_is hd;
  directed = some_quotient q.factor (unsigned_abs a) (unsigned_abs b) (unsigned_abs c) (unsigned_abs n.a) (unsigned_abs n.b) (unsigned_abs n.c) (quotient_size a n.a q.factor q.x_is) (quotient_size b n.b q.factor q.y_is) (quotient_size c n.c q.factor q.z_is) h;
  reduced = q.no_factor;
}

pub reduced_is_times : (m n : Coefficients) → AreQuotients m.a m.b m.c m.d n.a n.b n.c n.d → IsPlaneTimes m n
reduced_is_times m n q = record { by = pos q.factor; above = above_positive q.factor q.above; a = q.x_is; b = q.y_is; c = q.z_is; d = q.w_is }

pub collinear : (p q r : Coordinates) → ((plane_of_points p q r).a ≡ pos 0) × ((plane_of_points p q r).b ≡ pos 0) × ((plane_of_points p q r).c ≡ pos 0) → AreCollinear p q r
collinear p q r h = record { a = h.0; b = h.1; c = h.2 }

pub if_some : {A : Type 0} (o : Option A) (P Q : A → Type 0) → ((a : A) → P a → Q a) → IfSome o P → IfSome o Q
if_some None P Q f h = h
if_some (Some a) P Q f h = f a h

pub none_collinear : {N : Type 0} (p q r : Coordinates) (a b c : ℤ) → a ≡ (plane_of_points p q r).a → b ≡ (plane_of_points p q r).b → c ≡ (plane_of_points p q r).c → N ↔ ((a ≡ pos 0) × (b ≡ pos 0) × (c ≡ pos 0)) → N ↔ AreCollinear p q r
none_collinear p q r a b c ea eb ec h = (
  λ n. (let z = h.0 n in record { a = sym ea ∙ z.0; b = sym eb ∙ z.1; c = sym ec ∙ z.2 }),
  λ k. h.1 (ea ∙ k.a, eb ∙ k.b, ec ∙ k.c),
)
