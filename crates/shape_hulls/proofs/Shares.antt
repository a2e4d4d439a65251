-- A common multiple of some numbers above 0, and what each of them is to be multiplied by.
use Rattle.std.proofs.Common.{◌≡◌, ℕ, zero, suc, ◌+◌, ◌*◌, ◌/◌, ◌<◌, List, [], ◌∷◌, refl, sym, ap, ◌∙◌, subst, arith, ℤ, pos, negsuc, ◌*ℤ◌, ◌<ℤ◌, unsigned_abs}
use Rattle.std.specs.List.{AllByRecursion}
use Rattle.std.proofs.Math.IntN.{pos-*ℤ-pos}
use Rattle.std.proofs.Math.Nat.{div-mul_cancel, dvd-mul_left_of_dvd, dvd-mul_right}
use Rattle.plane_predicate.proofs.lemmas.IntegerRing.{sums}
use Prim.Native.Nat.{◌∣◌}

-- the product of a number for each item
abbrev product : {A : Type 0} → (A → ℕ) → List A → ℕ
product n [] = 1
product n (x ∷ xs) = n x * product n xs

-- an item's number is above 0, and makes the common multiple by its own factor
pub record IsScaled {A : Type 0} (h s : A → ℤ) (k : ℤ) (x : A) : Type 0 where
  pub above : pos 0 <ℤ s x
  pub level : s x *ℤ h x ≡ k

-- factors that make one common multiple of all numbers
pub record HasScale {A : Type 0} (h : A → ℤ) (xs : List A) : Type 0 where
  pub factor : A → ℤ
  pub common : ℤ
  pub above : pos 0 <ℤ common
  pub each : AllByRecursion (IsScaled h factor common) xs

each_weaker : {A : Type 0} (P Q : A → Type 0) → ((x : A) → P x → Q x) → (xs : List A) → AllByRecursion P xs → AllByRecursion Q xs
each_weaker P Q f [] h = tt
each_weaker P Q f (x ∷ xs) h = (f x h.0, each_weaker P Q f xs h.1)

both_each : {A : Type 0} (P Q : A → Type 0) (xs : List A) → AllByRecursion P xs → AllByRecursion Q xs → AllByRecursion (λ x. P x × Q x) xs
both_each P Q [] h k = tt
both_each P Q (x ∷ xs) h k = ((h.0, k.0), both_each P Q xs h.1 k.1)

divides : {A : Type 0} (n : A → ℕ) (xs : List A) → AllByRecursion (λ x. n x ∣ product n xs) xs
divides n [] = tt
divides n (x ∷ xs) = (dvd-mul_right (n x) (product n xs), each_weaker (λ y. n y ∣ product n xs) (λ y. n y ∣ n x * product n xs) (λ y d. dvd-mul_left_of_dvd (n y) d (n x)) xs (divides n xs))

times_above : (a b : ℕ) → 0 < a → 0 < b → 0 < a * b
times_above zero b h k = absurd (omega (arith, h))
times_above (suc a) zero h k = absurd (omega (arith, k))
times_above (suc a) (suc b) h k = omega arith

size_above : (x : ℤ) → pos 0 <ℤ x → 0 < unsigned_abs x
size_above (pos zero) h = absurd (omega (arith, sums, h))
size_above (pos (suc n)) h = omega arith
size_above (negsuc n) h = absurd (omega (arith, sums, h))

size_itself : (x : ℤ) → pos 0 <ℤ x → x ≡ pos (unsigned_abs x)
size_itself (pos n) h = refl
size_itself (negsuc n) h = absurd (omega (arith, sums, h))

product_above : {A : Type 0} (h : A → ℤ) (xs : List A) → AllByRecursion (λ x. pos 0 <ℤ h x) xs → 0 < product (λ x. unsigned_abs (h x)) xs
product_above h [] k = omega arith
product_above h (x ∷ xs) k = times_above (unsigned_abs (h x)) (product (λ y. unsigned_abs (h y)) xs) (size_above (h x) k.0) (product_above h xs k.1)

some_times : (a b c : ℕ) → a * b ≡ c → 0 < c → 0 < a
some_times zero b c e h = absurd (omega (arith, e, h))
some_times (suc a) b c e h = omega arith

pos_above : (n : ℕ) → 0 < n → pos 0 <ℤ pos n
pos_above zero h = absurd (omega (arith, h))
pos_above (suc n) h = omega (arith, sums)

scaled_by : {A : Type 0} (h : A → ℤ) (c : ℕ) → 0 < c → (x : A) → (unsigned_abs (h x) ∣ c) × (pos 0 <ℤ h x) → IsScaled h (λ y. pos (c / unsigned_abs (h y))) (pos c) x
scaled_by h c above x k =
    let whole : c / unsigned_abs (h x) * unsigned_abs (h x) ≡ c = div-mul_cancel (unsigned_abs (h x)) k.0 in
    record {
      above = pos_above (c / unsigned_abs (h x)) (some_times (c / unsigned_abs (h x)) (unsigned_abs (h x)) c whole above);
      level = ap (λ (z : ℤ). pos (c / unsigned_abs (h x)) *ℤ z) (size_itself (h x) k.1) ∙ pos-*ℤ-pos (c / unsigned_abs (h x)) (unsigned_abs (h x)) ∙ ap pos whole;
    }

pub scale : {A : Type 0} (h : A → ℤ) (xs : List A) → AllByRecursion (λ x. pos 0 <ℤ h x) xs → HasScale h xs
scale h xs k =
    let n = λ (x : _). unsigned_abs (h x) in
    let c = product n xs in
    let above = product_above h xs k in
    record {
      factor = λ y. pos (c / unsigned_abs (h y));
      common = pos c;
      above = pos_above c above;
      each = each_weaker (λ x. (n x ∣ c) × (pos 0 <ℤ h x)) (IsScaled h (λ y. pos (c / unsigned_abs (h y))) (pos c)) (scaled_by h c above) xs (both_each (λ x. n x ∣ c) (λ x. pos 0 <ℤ h x) xs (divides n xs) k);
    }
