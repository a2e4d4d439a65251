-- The items of a bounded value are bounded.
use Rattle.std.proofs.Common.{◌≡◌, ℕ, zero, suc, ◌+◌, ◌-◌, ◌*◌, ◌/◌, ◌^◌, ◌<◌, Bool, true, false, cond, ◌&&◌, ◌∷◌, ℤ, pos, negsuc, ◌+ℤ◌, ◌-ℤ◌, ◌*ℤ◌, neg_ℤ, ◌<ℤ◌, ◌≤ℤ◌, refl, sym, ap, subst, ◌∙◌, arith, ltb, to_z, of_z}
use Rattle.std.specs.Prelude.{IsTrue, unsigned_abs, int_lt}
use Rattle.std.proofs.lemmas.Bool.{and_parts, and_from, ltb-true, lt-ltb}
use Rattle.std.proofs.lemmas.Int.{ints, to_z-of_z, fits_signed_from_abs}
use Rattle.std.proofs.Math.Nat.{div-mul-le_self}
use mir.Syntax.{w64, w128}
use Rattle.scad_value.specs.Values.{NumberVal, ListVal, RangeVal, Vals, no_vals, and_val, element_count, element_count_in, is_small, has_small_numbers, have_small_numbers, is_bounded}
use Rattle.scad_meaning.specs.Loops.{numbers_by, numbers_of_range, number_vals}
use Rattle.scad_instance_rules.specs.BoundedItems.{all_bounded}
use Rattle.scad_instance_rules.proofs.NumberedItems.{after_none}

-- of a list
each_bounded : (vs : Vals) → IsTrue (have_small_numbers vs) → element_count_in vs < 2 ^ 20 → IsTrue (all_bounded vs)
each_bounded no_vals s p = refl
each_bounded (and_val v vs) s p =
    let parts = and_parts (has_small_numbers v) (have_small_numbers vs) s in
    and_from (is_bounded v) (all_bounded vs)
    (and_from (has_small_numbers v) (ltb (element_count v) (2 ^ 20)) parts.0 (lt-ltb (element_count v) (2 ^ 20) (omega arith)))
    (each_bounded vs parts.1 (omega arith))

pub list_bounded : (vs : Vals) → IsTrue (is_bounded (ListVal vs)) → IsTrue (all_bounded vs)
list_bounded vs h =
    let parts = and_parts (have_small_numbers vs) (ltb (suc (element_count_in vs)) (2 ^ 20)) h in
    let few : suc (element_count_in vs) < 2 ^ 20 = ltb-true (suc (element_count_in vs)) (2 ^ 20) parts.1 in
    each_bounded vs parts.0 (omega arith)

-- of a range
pub size_of_small : (n : ℤ) → IsTrue (is_small n) → unsigned_abs n < 2 ^ 53
size_of_small n h = ltb-true (unsigned_abs n) (2 ^ 53) h

number_bounded : (n : ℤ) → neg_ℤ (pos (2 ^ 53)) <ℤ n → n <ℤ pos (2 ^ 53) → IsTrue (is_bounded (NumberVal n))
number_bounded n l h = and_from (is_small n) (ltb 1 (2 ^ 20)) (lt-ltb (unsigned_abs n) (2 ^ 53) (size n l h)) refl
  where
    size : (n : ℤ) → neg_ℤ (pos (2 ^ 53)) <ℤ n → n <ℤ pos (2 ^ 53) → unsigned_abs n < 2 ^ 53
    size (pos n) l h = omega (arith, ints)
    size (negsuc n) l h = omega (arith, ints)

rising_bounded : (c s : ℕ) (n high : ℤ) → neg_ℤ (pos (2 ^ 53)) <ℤ n → high <ℤ pos (2 ^ 53)
    → (n +ℤ pos (c * suc s)) ≤ℤ (high +ℤ pos (suc s)) → IsTrue (all_bounded (number_vals (numbers_by c n (pos (suc s)))))
rising_bounded zero s n high l h e = refl
rising_bounded (suc c) s n high l h e =
    and_from (is_bounded (NumberVal n)) (all_bounded (number_vals (numbers_by c (n +ℤ pos (suc s)) (pos (suc s)))))
    (number_bounded n l (omega (arith, ints))) (rising_bounded c s (n +ℤ pos (suc s)) high (omega (arith, ints)) h (omega (arith, ints)))

falling_bounded : (c s : ℕ) (n low : ℤ) → n <ℤ pos (2 ^ 53) → neg_ℤ (pos (2 ^ 53)) <ℤ low
    → low ≤ℤ ((n -ℤ pos (c * suc s)) +ℤ pos (suc s)) → IsTrue (all_bounded (number_vals (numbers_by c n (negsuc s))))
falling_bounded zero s n low h l e = refl
falling_bounded (suc c) s n low h l e =
    and_from (is_bounded (NumberVal n)) (all_bounded (number_vals (numbers_by c (n +ℤ negsuc s) (negsuc s))))
    (number_bounded n (omega (arith, ints)) h) (falling_bounded c s (n +ℤ negsuc s) low (omega (arith, ints)) l (omega (arith, ints)))

difference : (a b : ℤ) → b ≤ℤ a → b +ℤ pos (unsigned_abs (a -ℤ b)) ≡ a
difference a b h = by_sign (a -ℤ b) refl
  where
    by_sign : (d : ℤ) → a -ℤ b ≡ d → b +ℤ pos (unsigned_abs (a -ℤ b)) ≡ a
    by_sign (pos n) e = rw e (omega (arith, ints))
    by_sign (negsuc n) e = absurd (omega (arith, ints))

range_bounded : (from by upto : ℤ) → IsTrue (is_small from) → IsTrue (is_small upto)
    → IsTrue (all_bounded (number_vals (numbers_of_range from by upto)))
range_bounded from (pos zero) upto f u = refl
range_bounded from (pos (suc s)) upto f u = by_order (int_lt upto from) refl
  where
    by_order : (b : Bool) → int_lt upto from ≡ b
        → IsTrue (all_bounded (number_vals (numbers_by (cond b zero (suc (unsigned_abs (upto -ℤ from) / suc s))) from (pos (suc s)))))
    by_order true e = refl
    by_order false e =
        let first = size_of_small from f in
        let last = size_of_small upto u in
        let way = difference upto from (omega (arith, ints)) in
        let steps = div-mul-le_self (unsigned_abs (upto -ℤ from)) (suc s) in
        rising_bounded (suc (unsigned_abs (upto -ℤ from) / suc s)) s from upto (omega (arith, ints)) (omega (arith, ints)) (omega (arith, ints))
range_bounded from (negsuc s) upto f u = by_order (int_lt from upto) refl
  where
    by_order : (b : Bool) → int_lt from upto ≡ b
        → IsTrue (all_bounded (number_vals (numbers_by (cond b zero (suc (unsigned_abs (from -ℤ upto) / suc s))) from (negsuc s))))
    by_order true e = refl
    by_order false e =
        let first = size_of_small from f in
        let last = size_of_small upto u in
        let way = difference from upto (omega (arith, ints)) in
        let steps = div-mul-le_self (unsigned_abs (from -ℤ upto)) (suc s) in
        falling_bounded (suc (unsigned_abs (from -ℤ upto) / suc s)) s from upto (omega (arith, ints)) (omega (arith, ints)) (omega (arith, ints))

pub bounded_range : (from by upto : ℤ) → IsTrue (is_bounded (RangeVal from by upto))
    → IsTrue (all_bounded (number_vals (numbers_of_range from by upto)))
bounded_range from by upto h =
    let small = (and_parts (has_small_numbers (RangeVal from by upto)) (ltb 1 (2 ^ 20)) h).0 in
    let parts = and_parts (is_small from) (is_small by && is_small upto) small in
    range_bounded from by upto parts.0 ((and_parts (is_small by) (is_small upto) parts.1).1)

-- the next number of a range, at a place
after_place : (n by : ℤ) (k : ℕ) → (n +ℤ (pos k *ℤ by)) +ℤ by ≡ n +ℤ (pos (k + 1) *ℤ by)
after_place n (pos s) k = omega (arith, ints)
after_place n (negsuc s) k = omega (arith, ints)

pub next_number : (c k : ℕ) (n by : ℤ) → k < c → numbers_by (c - k) (n +ℤ (pos k *ℤ by)) by
    ≡ (n +ℤ (pos k *ℤ by)) ∷ numbers_by (c - (k + 1)) (n +ℤ (pos (k + 1) *ℤ by)) by
next_number c k n by h =
    let count : c - k ≡ suc (c - (k + 1)) = omega arith in
    ap (λ m. numbers_by m (n +ℤ (pos k *ℤ by)) by) count
    ∙ ap (λ z. (n +ℤ (pos k *ℤ by)) ∷ numbers_by (c - (k + 1)) z by) (after_place n by k)

-- from the first on
pub from_start : (c : ℕ) (n by : ℤ) → numbers_by (c - 0) (n +ℤ (pos 0 *ℤ by)) by ≡ numbers_by c n by
from_start c n by = let count : c - 0 ≡ c = omega arith in
    ap (λ m. numbers_by m (n +ℤ (pos 0 *ℤ by)) by) count ∙ ap (λ z. numbers_by c z by) (after_none n by)

narrow : (z : ℤ) → unsigned_abs z < 2 ^ 53 → to_z w64 (of_z w64 (to_z w128 (of_z w128 z))) ≡ z
narrow z h =
    let wide = to_z-of_z w128 z (fits_signed_from_abs w128 z (omega arith)) in
    let slim = to_z-of_z w64 z (fits_signed_from_abs w64 z (omega arith)) in
    ap (λ y. to_z w64 (of_z w64 y)) wide ∙ slim

-- which is small
pub next_small : (c k : ℕ) (n by : ℤ) → k < c
    → IsTrue (all_bounded (number_vals (numbers_by (c - k) (n +ℤ (pos k *ℤ by)) by))) → unsigned_abs (n +ℤ (pos k *ℤ by)) < 2 ^ 53
next_small c k n by h b =
    let z = n +ℤ (pos k *ℤ by) in
    let rest = number_vals (numbers_by (c - (k + 1)) (n +ℤ (pos (k + 1) *ℤ by)) by) in
    let all : IsTrue (all_bounded (and_val (NumberVal z) rest)) = subst (λ ns. IsTrue (all_bounded (number_vals ns))) (next_number c k n by h) b in
    size_of_small z ((and_parts (is_small z) (ltb 1 (2 ^ 20)) ((and_parts (is_bounded (NumberVal z)) (all_bounded rest) all).0)).0)

-- the next one as the code computes it
pub next_of : (c k : ℕ) (n by r : ℤ) → k < c
    → IsTrue (all_bounded (number_vals (numbers_by (c - k) (n +ℤ (pos k *ℤ by)) by))) → r ≡ n +ℤ (pos k *ℤ by)
    → numbers_by (c - k) (n +ℤ (pos k *ℤ by)) by
    ≡ to_z w64 (of_z w64 (to_z w128 (of_z w128 r))) ∷ numbers_by (c - (k + 1)) (n +ℤ (pos (k + 1) *ℤ by)) by
next_of c k n by r h b e =
    let z = n +ℤ (pos k *ℤ by) in
    let cast : to_z w64 (of_z w64 (to_z w128 (of_z w128 r))) ≡ z =
    ap (λ y. to_z w64 (of_z w64 (to_z w128 (of_z w128 y)))) e ∙ narrow z (next_small c k n by h b) in
    next_number c k n by h ∙ ap (λ y. y ∷ numbers_by (c - (k + 1)) (n +ℤ (pos (k + 1) *ℤ by)) by) (sym cast)
