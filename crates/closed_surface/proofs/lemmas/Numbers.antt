-- Signs of numbers, and tests of them.
use Rattle.std.proofs.Common.{◌≡◌, ◌≢◌, Bool, true, false, refl, sym, arith, ℤ, pos, neg_ℤ, ◌<ℤ◌, ◌≤ℤ◌, int_lt}
use Rattle.std.proofs.lemmas.Int.{ints}
use Rattle.plane_predicate.proofs.lemmas.IntegerRing.{sums}

-- ---- tests
pub below : (x y : ℤ) → x <ℤ y → int_lt x y ≡ true
below x y h = grind (arith, ints)

pub not_below : (x y : ℤ) → y ≤ℤ x → int_lt x y ≡ false
not_below x y h = grind (arith, ints)

pub below_back : (x y : ℤ) → int_lt x y ≡ true → x <ℤ y
below_back x y h = grind (arith, ints)

pub false_by : (b : Bool) → (b ≡ true → ⊥) → b ≡ false
false_by true h = absurd (h refl)
false_by false h = refl

-- two tests that are true together
pub same_tests : (b c : Bool) → (b ≡ true → c ≡ true) → (c ≡ true → b ≡ true) → b ≡ c
same_tests true c h k = sym (h refl)
same_tests false true h k = k refl
same_tests false false h k = refl

-- ---- orders
pub at_most : (x : ℤ) → x <ℤ pos 0 → x ≤ℤ pos 0
at_most x h = omega (arith, sums)

pub at_least : (x : ℤ) → pos 0 <ℤ x → pos 0 ≤ℤ x
at_least x h = omega (arith, sums)

pub zero_at_most : (x : ℤ) → x ≡ pos 0 → x ≤ℤ pos 0
zero_at_most x h = omega (arith, sums)

pub zero_at_least : (x : ℤ) → x ≡ pos 0 → pos 0 ≤ℤ x
zero_at_least x h = omega (arith, sums)

pub not_zero_below : (x : ℤ) → x <ℤ pos 0 → x ≢ pos 0
not_zero_below x h e = omega (arith, sums)

pub not_zero_above : (x : ℤ) → pos 0 <ℤ x → x ≢ pos 0
not_zero_above x h e = omega (arith, sums)

pub not_both : (x : ℤ) → pos 0 <ℤ x → x <ℤ pos 0 → ⊥
not_both x h k = omega (arith, sums)

-- ---- numbers with the sign changed
pub negative_above : (x y : ℤ) → y ≡ neg_ℤ x → x <ℤ pos 0 → pos 0 <ℤ y
negative_above x y e h = omega (arith, sums)

pub negative_below : (x y : ℤ) → y ≡ neg_ℤ x → pos 0 <ℤ x → y <ℤ pos 0
negative_below x y e h = omega (arith, sums)

pub negative_apart : (x y : ℤ) → y ≡ neg_ℤ x → x ≢ pos 0 → y ≢ pos 0
negative_apart x y e h z = h (omega (arith, sums))

pub negative_zero : (x y : ℤ) → y ≡ neg_ℤ x → x ≡ pos 0 → y ≡ pos 0
negative_zero x y e h = omega (arith, sums)
