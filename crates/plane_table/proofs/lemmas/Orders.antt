-- Lists of planes in ascending order.
use Rattle.std.proofs.Common.{◌≡◌, ℕ, zero, suc, ◌+◌, ◌-◌, ◌<◌, ◌⊎◌, Bool, true, false, not, ◌&&◌, ◌||◌, cond, List, [], ◌∷◌, ◌++◌, length, get_or, refl, sym, ap, ap₂, ◌∙◌, inl, inr, arith, ℤ, pos, negsuc, neg_ℤ, int_lt, Ordering, true≢false, ◌≤◌, is_lt}
use Rattle.std.specs.declared.cmp.Ordering.TheVariants.{Less, Equal, Greater}
use Rattle.std.specs.Ordering.{int_eq}
use Rattle.std.specs.Cmp.{IsTotalOrder}
use Rattle.std.proofs.lemmas.Bool.{cases_lt}
use Rattle.std.proofs.lemmas.Cmp.{then_total, on_total, int_cmp_total, tied_itself}
use Rattle.std.proofs.lemmas.List.{get_or_append_left, get_or_push, get_or_read, length-append}
use Rattle.std.proofs.lemmas.Int.{ints}
use Rattle.plane_predicate.specs.Space.{Coefficients, opposite_of}
use Rattle.plane_polygon.specs.Polygons.{missing_plane}
use Rattle.plane_table.specs.Tables.{AreApart, HasNoTwoAlike}
use Rattle.plane_table.specs.Orders.{is_low, normal_form, by_numbers, plane_order, ComesNext, IsAscending}
use Rattle.plane_table.proofs.Numbers.{opposite_opposite}
use Rattle.plane_table.proofs.lemmas.Planes.{four_same}

-- ---- a plane and its opposite are turned to the same plane
abbrev below_first : ℤ → Bool → Bool
below_first x rest = int_lt x (pos 0) || (int_eq x (pos 0) && rest)

first_zero : (r : Bool) → below_first (pos zero) r ≡ r
first_zero r = refl

first_above : (n : ℕ) (r : Bool) → below_first (pos (suc n)) r ≡ false
first_above n r =
    let e : int_lt (pos (suc n)) (pos 0) ≡ false = grind (arith, ints) in
    let h : int_eq (pos (suc n)) (pos 0) ≡ false = grind (arith, ints) in
    ap₂ (λ (x y : Bool). x || (y && r)) e h

first_below : (n : ℕ) (r : Bool) → below_first (negsuc n) r ≡ true
first_below n r = refl

first_turned : (x : ℤ) (r t : Bool) (Z : Type 0) → Z ⊎ (t ≡ not r) → ((x ≡ pos 0) × Z) ⊎ (below_first (neg_ℤ x) t ≡ not (below_first x r))
first_turned (pos zero) r t Z (inl z) = inl (refl, z)
first_turned (pos zero) r t Z (inr e) = inr (first_zero t ∙ e ∙ ap not (sym (first_zero r)))
first_turned (pos (suc n)) r t Z h = inr (first_below n t ∙ ap not (sym (first_above n r)))
first_turned (negsuc n) r t Z h = inr (first_above n t ∙ ap not (sym (first_below n r)))

last_turned : (x : ℤ) → (x ≡ pos 0) ⊎ (int_lt (neg_ℤ x) (pos 0) ≡ not (int_lt x (pos 0)))
last_turned (pos zero) = inl refl
last_turned (pos (suc n)) = inr (let e : int_lt (pos (suc n)) (pos 0) ≡ false = grind (arith, ints) in ap not (sym e))
last_turned (negsuc n) = inr (grind (arith, ints))

low_turned : (m : Coefficients) → (m ≡ opposite_of m) ⊎ (is_low (opposite_of m) ≡ not (is_low m))
low_turned m =
    let d = last_turned m.d in
    let c = first_turned m.c (int_lt m.d (pos 0)) (int_lt (neg_ℤ m.d) (pos 0)) (m.d ≡ pos 0) d in
    let b = first_turned m.b (below_first m.c (int_lt m.d (pos 0))) (below_first (neg_ℤ m.c) (int_lt (neg_ℤ m.d) (pos 0))) ((m.c ≡ pos 0) × (m.d ≡ pos 0)) c in
    let a = first_turned m.a (below_first m.b (below_first m.c (int_lt m.d (pos 0)))) (below_first (neg_ℤ m.b) (below_first (neg_ℤ m.c) (int_lt (neg_ℤ m.d) (pos 0)))) ((m.b ≡ pos 0) × ((m.c ≡ pos 0) × (m.d ≡ pos 0))) b in
    elim a [
      | inl z ↦ inl (four_same m (opposite_of m) (z.0 ∙ ap neg_ℤ (sym z.0)) (z.1.0 ∙ ap neg_ℤ (sym z.1.0)) (z.1.1.0 ∙ ap neg_ℤ (sym z.1.1.0)) (z.1.1.1 ∙ ap neg_ℤ (sym z.1.1.1)))
      | inr e ↦ inr e
    ]

normal_form_low : (m : Coefficients) → is_low m ≡ true → normal_form m ≡ opposite_of m
unfolding normal_form
normal_form_low m e = ap (λ (b : Bool). cond b (opposite_of m) m) e

normal_form_high : (m : Coefficients) → is_low m ≡ false → normal_form m ≡ m
unfolding normal_form
normal_form_high m e = ap (λ (b : Bool). cond b (opposite_of m) m) e

normal_form_opposite : (m : Coefficients) → normal_form (opposite_of m) ≡ normal_form m
normal_form_opposite m = elim (low_turned m) [
  | inl e ↦ ap normal_form (sym e)
  | inr e ↦ elim (is_low m) as (λ b. is_low m ≡ b → normal_form (opposite_of m) ≡ normal_form m) [
    | true ↦ λ h. normal_form_high (opposite_of m) (e ∙ ap not h) ∙ sym (normal_form_low m h)
    | false ↦ λ h. normal_form_low (opposite_of m) (e ∙ ap not h) ∙ opposite_opposite m ∙ sym (normal_form_high m h)
  ] refl
]

-- ---- the order
by_numbers_total : IsTotalOrder by_numbers
by_numbers_total =
    then_total (on_total (λ (m : Coefficients). m.a) int_cmp_total)
    (then_total (on_total (λ (m : Coefficients). m.b) int_cmp_total)
    (then_total (on_total (λ (m : Coefficients). m.c) int_cmp_total) (on_total (λ (m : Coefficients). m.d) int_cmp_total)))

pub total : IsTotalOrder plane_order
total = on_total normal_form by_numbers_total

itself : (m : Coefficients) → plane_order m m ≡ Less → ⊥
itself m e = let h : plane_order m m ≡ Equal = tied_itself total m in cc

less_apart : (m n : Coefficients) → plane_order m n ≡ Less → AreApart m n
less_apart m n e = record {
  differ = λ h. itself n (ap (λ (p : Coefficients). plane_order p n) (sym h) ∙ e);
  not_opposite = λ h. itself n (ap (λ (p : Coefficients). by_numbers p (normal_form n)) (sym (ap normal_form h ∙ normal_form_opposite n)) ∙ e);
}

pub apart_back : (m n : Coefficients) → AreApart m n → AreApart n m
apart_back m n h = record {
  differ = λ e. h.differ (sym e);
  not_opposite = λ e. h.not_opposite (sym (opposite_opposite m) ∙ ap opposite_of (sym e));
}

-- ---- lists in ascending order
along : (ps : List Coefficients) → IsAscending ps → (i j d : ℕ) → j ≡ i + 1 + d → j < length ps → plane_order (get_or ps i missing_plane) (get_or ps j missing_plane) ≡ Less
along ps h i j zero e l =
    let k : j ≡ i + 1 = omega arith in
    ap (λ (n : ℕ). plane_order (get_or ps i missing_plane) (get_or ps n missing_plane)) k ∙ h.next i (omega arith)
along ps h i j (suc d) e l =
    let k : j ≡ (i + 1 + d) + 1 = omega arith in
    total.trans (get_or ps i missing_plane) (get_or ps (i + 1 + d) missing_plane) (get_or ps j missing_plane)
    (along ps h i (i + 1 + d) d refl (omega arith))
    (ap (λ (n : ℕ). plane_order (get_or ps (i + 1 + d) missing_plane) (get_or ps n missing_plane)) k ∙ h.next (i + 1 + d) (omega arith))

pub ascending_apart : (ps : List Coefficients) → IsAscending ps → HasNoTwoAlike ps
ascending_apart ps h = record {
  apart = λ i j x y n. elim (cases_lt i j) [
    | inl l ↦ less_apart (get_or ps i missing_plane) (get_or ps j missing_plane) (along ps h i j (j - (i + 1)) (omega arith) y)
    | inr l ↦ apart_back (get_or ps j missing_plane) (get_or ps i missing_plane) (less_apart (get_or ps j missing_plane) (get_or ps i missing_plane) (along ps h j i (i - (j + 1)) (omega arith) x))
  ];
}

-- one more plane at the end
pub ascending_more : (ps : List Coefficients) (m : Coefficients) → IsAscending ps → ComesNext ps m → IsAscending (ps ++ m ∷ [])
ascending_more ps m h k = record {
  next = λ i l. (let n = length-append ps (m ∷ []) in elim (cases_lt (i + 1) (length ps)) [
    | inl a ↦ ap₂ plane_order (get_or_append_left ps (m ∷ []) missing_plane i (omega arith)) (get_or_append_left ps (m ∷ []) missing_plane (i + 1) a) ∙ h.next i a
    | inr a ↦ (let e : i + 1 ≡ length ps = omega arith in
        ap₂ plane_order (get_or_append_left ps (m ∷ []) missing_plane i (omega arith)) (get_or_push ps m missing_plane (i + 1) (sym e)) ∙ k i e)
  ]);
}

-- ---- the walk over a list
pub less_is : (r : Ordering) → is_lt r ≡ true → r ≡ Less
less_is Less e = refl
less_is Equal e = absurd (true≢false (sym e))
less_is Greater e = absurd (true≢false (sym e))

compared_at : (ps : List Coefficients) (i : ℕ) (m n : Coefficients) → 1 ≤ i → i < length ps → m ≡ get_or ps (i - 1) m → n ≡ get_or ps i n → plane_order m n ≡ plane_order (get_or ps (i - 1) missing_plane) (get_or ps i missing_plane)
compared_at ps i m n l h x y = ap₂ plane_order (get_or_read ps (i - 1) m (omega arith) x missing_plane) (get_or_read ps i n h y missing_plane)

pub order_more : (ps : List Coefficients) (i : ℕ) (m n : Coefficients) (b : Bool) → 1 ≤ i → i < length ps → m ≡ get_or ps (i - 1) m → n ≡ get_or ps i n →
    b ≡ is_lt (plane_order m n) → b ≡ true → ((k : ℕ) → k + 1 < i → plane_order (get_or ps k missing_plane) (get_or ps (k + 1) missing_plane) ≡ Less) →
    (k : ℕ) → k + 1 < i + 1 → plane_order (get_or ps k missing_plane) (get_or ps (k + 1) missing_plane) ≡ Less
order_more ps i m n b l h x y e t before k j = elim (cases_lt (k + 1) i) [
  | inl a ↦ before k a
  | inr a ↦ (let p : k ≡ i - 1 = omega arith in let q : k + 1 ≡ i = omega arith in
      ap₂ (λ (u v : ℕ). plane_order (get_or ps u missing_plane) (get_or ps v missing_plane)) p q ∙ sym (compared_at ps i m n l h x y) ∙ less_is (plane_order m n) (sym e ∙ t))
]

pub order_fails : (ps : List Coefficients) (i : ℕ) (m n : Coefficients) (b : Bool) → 1 ≤ i → i < length ps → m ≡ get_or ps (i - 1) m → n ≡ get_or ps i n →
    b ≡ is_lt (plane_order m n) → b ≡ false → IsAscending ps → ⊥
order_fails ps i m n b l h x y e f a =
    let k : (i - 1) + 1 ≡ i = omega arith in
    let c = ap (λ (u : ℕ). plane_order (get_or ps (i - 1) missing_plane) (get_or ps u missing_plane)) (sym k) ∙ a.next (i - 1) (omega arith) in
    true≢false (sym (ap is_lt (compared_at ps i m n l h x y ∙ c)) ∙ sym e ∙ f)
