-- Numbers of planes.
use Rattle.std.proofs.Common.{◌≡◌, ◌≢◌, ℕ, zero, suc, ◌+◌, ◌-◌, ◌*◌, ◌/◌, ◌%◌, ◌<◌, ◌⊎◌, cond, eqb, List, [], ◌∷◌, ◌++◌, length, get_or, map, refl, sym, ap, ◌∙◌, inl, inr, arith, ℤ, pos, negsuc, neg_ℤ}
use Rattle.std.proofs.lemmas.Bool.{cases_eq}
use Rattle.std.proofs.lemmas.List.{get_or_append_left, get_or_push}
use Rattle.plane_predicate.specs.Space.{Coefficients, opposite_of}
use Rattle.plane_polygon.specs.Polygons.{missing_plane}
use Rattle.plane_table.specs.Tables.{plane_named, oriented_by_number, opposite_number, NamesPlaneIn}

-- ---- opposites
neg_neg : (x : ℤ) → neg_ℤ (neg_ℤ x) ≡ x
neg_neg (pos zero) = refl
neg_neg (pos (suc n)) = refl
neg_neg (negsuc n) = refl

pub opposite_opposite : (m : Coefficients) → opposite_of (opposite_of m) ≡ m
opposite_opposite m = simp neg_neg

pub turned_back : (m n : Coefficients) → m ≡ opposite_of n → n ≡ opposite_of m
turned_back m n e = sym (opposite_opposite n) ∙ ap opposite_of (sym e)

-- ---- even and odd numbers
pub even : (n : ℕ) → n % 2 ≡ 0 → (m : Coefficients) → oriented_by_number n m ≡ m
unfolding oriented_by_number
even n e m = ap (λ (k : ℕ). cond (eqb k 0) m (opposite_of m)) e

pub odd : (n : ℕ) → n % 2 ≡ 1 → (m : Coefficients) → oriented_by_number n m ≡ opposite_of m
unfolding oriented_by_number
odd n e m = ap (λ (k : ℕ). cond (eqb k 0) m (opposite_of m)) e

pub at_even : (i : ℕ) (m : Coefficients) → oriented_by_number (2 * i) m ≡ m
at_even i m = even (2 * i) (omega arith) m

pub at_odd : (i : ℕ) (m : Coefficients) → oriented_by_number (2 * i + 1) m ≡ opposite_of m
at_odd i m = odd (2 * i + 1) (omega arith) m

pub opposite_even : (n : ℕ) → n % 2 ≡ 0 → opposite_number n ≡ n + 1
unfolding opposite_number
opposite_even n e = ap (λ (k : ℕ). cond (eqb k 0) (n + 1) (n - 1)) e

pub opposite_odd : (n : ℕ) → n % 2 ≡ 1 → opposite_number n ≡ n - 1
unfolding opposite_number
opposite_odd n e = ap (λ (k : ℕ). cond (eqb k 0) (n + 1) (n - 1)) e

pub parity : (n : ℕ) → (n % 2 ≡ 0) ⊎ (n % 2 ≡ 1)
parity n = elim (cases_eq (n % 2) 0) [ inl e ↦ inl e | inr e ↦ inr (omega arith) ]

-- the number beside n, with the same plane
pub record Beside (n : ℕ) : Type 0 where
  pub half : opposite_number n / 2 ≡ n / 2
  pub turns : (m : Coefficients) → oriented_by_number (opposite_number n) m ≡ opposite_of (oriented_by_number n m)
  pub differs : opposite_number n ≢ n

pub beside : (n : ℕ) → Beside n
beside n = elim (parity n) [
  | inl e ↦ (let o = opposite_even n e in
      let h : (n + 1) % 2 ≡ 1 = omega arith in
      record {
        half = ap (λ (k : ℕ). k / 2) o ∙ omega arith;
        turns = λ m. ap (λ (k : ℕ). oriented_by_number k m) o ∙ odd (n + 1) h m ∙ ap opposite_of (sym (even n e m));
        differs = λ d. omega (arith, o, d);
      })
  | inr e ↦ (let o = opposite_odd n e in
      let h : (n - 1) % 2 ≡ 0 = omega arith in
      record {
        half = ap (λ (k : ℕ). k / 2) o ∙ omega arith;
        turns = λ m. ap (λ (k : ℕ). oriented_by_number k m) o ∙ even (n - 1) h m ∙ sym (opposite_opposite m) ∙ ap opposite_of (sym (odd n e m));
        differs = λ d. omega (arith, o, d);
      })
]

pub named_opposite : (planes : List Coefficients) (n : ℕ) → plane_named planes (opposite_number n) ≡ opposite_of (plane_named planes n)
named_opposite planes n =
    (beside n).turns (get_or planes (opposite_number n / 2) missing_plane)
    ∙ ap (λ (k : ℕ). opposite_of (oriented_by_number n (get_or planes k missing_plane))) (beside n).half

pub opposite_in : (planes : List Coefficients) (n : ℕ) → NamesPlaneIn planes n → NamesPlaneIn planes (opposite_number n)
opposite_in planes n h = let e = (beside n).half in omega arith

-- ---- lists that grow
pub named_more : (planes : List Coefficients) (m : Coefficients) (n : ℕ) → NamesPlaneIn planes n → plane_named (planes ++ m ∷ []) n ≡ plane_named planes n
named_more planes m n h = ap (oriented_by_number n) (get_or_append_left planes (m ∷ []) missing_plane (n / 2) (omega arith))

pub named_last : (planes : List Coefficients) (m : Coefficients) → plane_named (planes ++ m ∷ []) (2 * length planes) ≡ m
named_last planes m =
    let k : 2 * length planes / 2 ≡ length planes = omega arith in
    let e : 2 * length planes % 2 ≡ 0 = omega arith in
    even (2 * length planes) e (get_or (planes ++ m ∷ []) (2 * length planes / 2) missing_plane)
    ∙ get_or_push planes m missing_plane (2 * length planes / 2) (sym k)

-- ---- lists of numbers
pub get_map : {A B : Type 0} (f : A → B) (xs : List A) (i : ℕ) (d : A) (e : B) → i < length xs → get_or (map f xs) i e ≡ f (get_or xs i d)
get_map f [] i d e h = absurd (omega arith)
get_map f (x ∷ xs) zero d e h = refl
get_map f (x ∷ xs) (suc i) d e h = get_map f xs i d e (omega arith)
