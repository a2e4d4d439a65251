-- A number that is doubled again and again.
use Rattle.std.proofs.Common.{◌≡◌, ℕ, zero, suc, ◌*◌, ◌^◌, ◌≤◌, refl, sym, ap, ◌∙◌, arith}
use Rattle.std.proofs.Math.Nat.{pow-suc}

-- k doubled n times
abbrev pub doubled : ℕ → ℕ → ℕ
doubled k zero = k
doubled k (suc n) = doubled (2 * k) n

pub doubled_more : (n j k : ℕ) → j ≤ k → doubled j n ≤ doubled k n
doubled_more zero j k h = h
doubled_more (suc n) j k h = doubled_more n (2 * j) (2 * k) (omega arith)

pub doubled_least : (n k : ℕ) → k ≤ doubled k n
doubled_least zero k = omega arith
doubled_least (suc n) k = omega (arith, doubled_least n (2 * k))

pub doubled_later : (m n k : ℕ) → m ≤ n → doubled k m ≤ doubled k n
doubled_later zero n k h = doubled_least n k
doubled_later (suc m) zero k h = absurd (omega arith)
doubled_later (suc m) (suc n) k h = doubled_later m n (2 * k) (omega arith)

pub doubled_twice : (n k : ℕ) → doubled (2 * k) n ≡ 2 * doubled k n
doubled_twice zero k = refl
doubled_twice (suc n) k = doubled_twice n (2 * k)

twice_first : (k p : ℕ) → 2 * k * p ≡ k * (p * 2)
twice_first k p = omega arith

pub doubled_is : (n k : ℕ) → doubled k n ≡ k * 2 ^ n
doubled_is zero k = omega arith
doubled_is (suc n) k =
    doubled_is n (2 * k) ∙ twice_first k (2 ^ n) ∙ ap (λ (p : ℕ). k * p) (sym (pow-suc 2 n))
