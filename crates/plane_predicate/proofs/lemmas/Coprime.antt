-- A multiplier without which a list of numbers has no common factor.
use Rattle.std.proofs.Common.{◌≡◌, ℕ, zero, suc, ◌+◌, ◌-◌, ◌*◌, ◌/◌, ◌%◌, ◌<◌, refl, sym, ap, ◌∙◌, subst, arith, mod-lt}
use Rattle.std.specs.Int.{IsGcd}
use Rattle.std.proofs.lemmas.Nat.Gcd.{IsGcd-from_zero, IsGcd-from_mod}
use Rattle.std.proofs.Math.Nat.{div-add-mod, dvd-sub, dvd-mul_left_of_dvd, dvd_of_mul-dvd-mul_left, dvd_antisymm, dvd-mul_right, pos_of_dvd_of_pos, mul-div_cancel'}
use Prim.Native.Nat.{◌∣◌}

mod_below : (m n : ℕ) → 0 < n → m % n < n
mod_below m n h = mod-lt m h

-- Euclid's steps stay among numbers that are closed under remainders
pub euclid : (T : ℕ → Type 0) → ((m n : ℕ) → T m → T n → T (m % n)) → (f u v : ℕ) → v < f → T u → T v → (g : ℕ) × T g × IsGcd u v g
euclid T step zero u v h tu tv = absurd (omega arith)
euclid T step (suc f) u zero h tu tv = (u, tu, IsGcd-from_zero u 0 refl)
euclid T step (suc f) u (suc v) h tu tv =
    let below : u % suc v < f = omega (arith, mod_below u (suc v) (omega arith)) in
    let r = euclid T step f (suc v) (u % suc v) below tv (step u (suc v) tu tv) in
    (r.0, r.1, IsGcd-from_mod u (suc v) r.0 r.2)

times_one : (g : ℕ) → g * 1 ≡ g
times_one g = omega arith

-- the numbers m for which u divides each m p i
abbrev Multiplies : ℕ → (ℕ → ℕ) → ℕ → Type 0
Multiplies u p m = (i : ℕ) → u ∣ m * p i

remainder_times : (m n q r p : ℕ) → n * q + r ≡ m → m * p - q * (n * p) ≡ r * p
remainder_times m n q r p e = omega (arith, ap (λ (x : ℕ). x * p) e)

multiplies_mod : (u : ℕ) (p : ℕ → ℕ) (m n : ℕ) → Multiplies u p m → Multiplies u p n → Multiplies u p (m % n)
multiplies_mod u p m n hm hn i =
    let e : m * p i - (m / n) * (n * p i) ≡ (m % n) * p i = remainder_times m n (m / n) (m % n) (p i) (div-add-mod m n) in
    subst (λ (x : ℕ). u ∣ x) e (dvd-sub u (hm i) (dvd-mul_left_of_dvd u (hn i) (m / n)))

-- where the numbers p i have no common factor, u divides v if it divides each v p i
pub divides_multiplier : (p : ℕ → ℕ) → ((k : ℕ) → ((i : ℕ) → k ∣ p i) → k ≡ 1) → (u v : ℕ) → 0 < u → ((i : ℕ) → u ∣ v * p i) → u ∣ v
divides_multiplier p coprime u v h d =
    let r = euclid (Multiplies u p) (λ m n. multiplies_mod u p m n) (suc v) u v (omega arith) (λ i. dvd-mul_right u (p i)) d in
    let g = r.0 in
    let above : 0 < g = pos_of_dvd_of_pos r.2.0 h in
    let factor : g * (u / g) ≡ u = mul-div_cancel' g r.2.0 in
    let one : u / g ≡ 1 = coprime (u / g) (λ i. dvd_of_mul-dvd-mul_left (u / g) above (subst (λ (x : ℕ). x ∣ g * p i) (sym factor) (r.1 i))) in
    let same : g ≡ u = sym (times_one g) ∙ ap (λ (x : ℕ). g * x) (sym one) ∙ factor in
    subst (λ (x : ℕ). x ∣ v) same r.2.1

-- two lists of numbers in one proportion, neither with a common factor, are equal
pub same_numbers : (p q : ℕ → ℕ) → ((k : ℕ) → ((i : ℕ) → k ∣ p i) → k ≡ 1) → ((k : ℕ) → ((i : ℕ) → k ∣ q i) → k ≡ 1) → (u v : ℕ) → 0 < u → 0 < v → ((i : ℕ) → u * q i ≡ v * p i) → u ≡ v
same_numbers p q cp cq u v hu hv e =
    dvd_antisymm
    (divides_multiplier p cp u v hu (λ i. subst (λ (x : ℕ). u ∣ x) (e i) (dvd-mul_right u (q i))))
    (divides_multiplier q cq v u hv (λ i. subst (λ (x : ℕ). v ∣ x) (sym (e i)) (dvd-mul_right v (p i))))
