-- Numbers of a list in which no two planes are equal or opposite.
use Rattle.std.proofs.Common.{◌≡◌, ◌≢◌, ℕ, zero, suc, ◌+◌, ◌-◌, ◌/◌, Bool, true, false, ◌&&◌, eqb, List, get_or, refl, sym, ap, ◌∙◌, true≢false, inl, inr, arith, ℤ, pos, negsuc, neg_ℤ, unsigned_abs}
use Rattle.std.specs.Ordering.{int_eq}
use Rattle.std.proofs.lemmas.Bool.{cases_eq, eq-eqb, ne_eqb}
use Rattle.std.proofs.lemmas.Int.{ints}
use Rattle.plane_predicate.specs.Space.{Coefficients, opposite_of, is_same, IsPlane}
use Rattle.plane_polygon.specs.Polygons.{missing_plane}
use Rattle.plane_table.specs.Tables.{plane_named, oriented_by_number, opposite_number, AreApart, HasNoTwoAlike, NamesPlaneIn}
use Rattle.plane_table.proofs.Numbers.{even, odd, parity, opposite_even, opposite_odd, opposite_opposite, named_opposite, opposite_in}

-- ---- the same four numbers
and_true : (x y : Bool) → (x && y) ≡ true → (x ≡ true) × (y ≡ true)
and_true true y h = (refl, h)
and_true false y h = absurd (true≢false (sym h))

same_int : (x y : ℤ) → int_eq x y ≡ true → x ≡ y
same_int x y h = grind (arith, ints)

int_itself : (x : ℤ) → int_eq x x ≡ true
int_itself x = grind (arith, ints)

pub four_same : (m n : Coefficients) → m.a ≡ n.a → m.b ≡ n.b → m.c ≡ n.c → m.d ≡ n.d → m ≡ n
four_same m n ha hb hc hd = λ i. record { a = ha i; b = hb i; c = hc i; d = hd i }

pub same_equal : (m n : Coefficients) → is_same m n ≡ true → m ≡ n
same_equal m n h =
    let x = and_true (int_eq m.a n.a) (int_eq m.b n.b && (int_eq m.c n.c && int_eq m.d n.d)) h in
    let y = and_true (int_eq m.b n.b) (int_eq m.c n.c && int_eq m.d n.d) x.1 in
    let z = and_true (int_eq m.c n.c) (int_eq m.d n.d) y.1 in
    four_same m n (same_int m.a n.a x.0) (same_int m.b n.b y.0) (same_int m.c n.c z.0) (same_int m.d n.d z.1)

same_itself : (m : Coefficients) → is_same m m ≡ true
same_itself m = rw (int_itself m.a, int_itself m.b, int_itself m.c, int_itself m.d) refl

not_equal : (m n : Coefficients) → m ≢ n → is_same m n ≡ false
not_equal m n h = elim (is_same m n) as (λ b. is_same m n ≡ b → b ≡ false) [ true ↦ λ e. absurd (h (same_equal m n e)) | false ↦ λ e. refl ] refl

pub not_same : (m n : Coefficients) → is_same m n ≡ false → m ≢ n
not_same m n h e = true≢false (sym (same_itself n) ∙ ap (λ (k : Coefficients). is_same k n) (sym e) ∙ h)

-- ---- a plane is not its own opposite
own_opposite : (x : ℤ) → x ≡ neg_ℤ x → unsigned_abs x ≡ 0
own_opposite (pos zero) e = refl
own_opposite (pos (suc n)) e = absurd (omega (arith, ints))
own_opposite (negsuc n) e = absurd (omega (arith, ints))

no_own_opposite : (m : Coefficients) → IsPlane m → m ≢ opposite_of m
no_own_opposite m h e =
    let a = own_opposite m.a (ap (λ (n : Coefficients). n.a) e) in
    let b = own_opposite m.b (ap (λ (n : Coefficients). n.b) e) in
    let c = own_opposite m.c (ap (λ (n : Coefficients). n.c) e) in
    omega (arith, h.directed)

turned_plane : (n : ℕ) (m : Coefficients) → oriented_by_number n m ≡ opposite_of (oriented_by_number n m) → m ≡ opposite_of m
turned_plane n m e = elim (parity n) [
  | inl p ↦ sym (even n p m) ∙ e ∙ ap opposite_of (even n p m)
  | inr p ↦ sym (opposite_opposite m) ∙ ap opposite_of (sym (odd n p m) ∙ e ∙ ap opposite_of (odd n p m) ∙ opposite_opposite m)
]

-- ---- numbers of planes apart
apart_turned : (p q : Coefficients) → AreApart p q → (m n : ℕ) → oriented_by_number m p ≢ oriented_by_number n q
apart_turned p q h m n e = elim (parity m) [
  | inl x ↦ elim (parity n) [
    | inl y ↦ h.differ (sym (even m x p) ∙ e ∙ even n y q)
    | inr y ↦ h.not_opposite (sym (even m x p) ∙ e ∙ odd n y q)
  ]
  | inr x ↦ elim (parity n) [
    | inl y ↦ h.not_opposite (sym (opposite_opposite p) ∙ ap opposite_of (sym (odd m x p) ∙ e ∙ even n y q))
    | inr y ↦ h.differ (sym (opposite_opposite p) ∙ ap opposite_of (sym (odd m x p) ∙ e ∙ odd n y q) ∙ opposite_opposite q)
  ]
]

halves_same : (m n : ℕ) → m / 2 ≡ n / 2 → m ≢ n → m ≡ opposite_number n
halves_same m n e h = elim (parity n) [ inl p ↦ (let k : m ≡ n + 1 = omega arith in k ∙ sym (opposite_even n p)) | inr p ↦ (let k : m ≡ n - 1 = omega arith in k ∙ sym (opposite_odd n p)) ]

numbers_differ : (planes : List Coefficients) (m n : ℕ) → HasNoTwoAlike planes → IsPlane (plane_named planes m) → NamesPlaneIn planes m → NamesPlaneIn planes n →
    m ≢ n → plane_named planes m ≢ plane_named planes n
numbers_differ planes m n h p i j e k = elim (cases_eq (m / 2) (n / 2)) [
  | inl x ↦ no_own_opposite (plane_named planes m) p (ap (plane_named planes) (halves_same m n x e) ∙ named_opposite planes n ∙ ap opposite_of (sym k))
  | inr x ↦ apart_turned (get_or planes (m / 2) missing_plane) (get_or planes (n / 2) missing_plane) (h.apart (m / 2) (n / 2) (omega arith) (omega arith) x) m n k
]

-- two numbers name the same plane exactly where they are equal
pub same_number : (planes : List Coefficients) (m n : ℕ) → HasNoTwoAlike planes → IsPlane (plane_named planes m) → NamesPlaneIn planes m → NamesPlaneIn planes n →
    eqb m n ≡ is_same (plane_named planes m) (plane_named planes n)
same_number planes m n h p i j = elim (cases_eq m n) [
  | inl e ↦ eq-eqb m n e ∙ sym (ap (λ (k : ℕ). is_same (plane_named planes m) (plane_named planes k)) (sym e) ∙ same_itself (plane_named planes m))
  | inr e ↦ ne_eqb m n e ∙ sym (not_equal (plane_named planes m) (plane_named planes n) (numbers_differ planes m n h p i j e))
]

pub other_number : (planes : List Coefficients) (m n : ℕ) → HasNoTwoAlike planes → IsPlane (plane_named planes m) → NamesPlaneIn planes m → NamesPlaneIn planes n →
    eqb m (opposite_number n) ≡ is_same (plane_named planes m) (opposite_of (plane_named planes n))
other_number planes m n h p i j = same_number planes m (opposite_number n) h p i (opposite_in planes n j) ∙ ap (is_same (plane_named planes m)) (named_opposite planes n)
