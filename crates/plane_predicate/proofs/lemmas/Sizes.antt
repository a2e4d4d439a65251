-- Sizes of sums and products, and numbers that fit 128 bits.
use Rattle.std.proofs.Common.{◌≡◌, ℕ, ◌+◌, ◌*◌, ◌^◌, ◌<◌, ◌≤◌, refl, arith, ℤ, pos, negsuc, ◌+ℤ◌, ◌-ℤ◌, ◌*ℤ◌, unsigned_abs, FitsSigned, mul-le-mul, le_of_eq, le_refl}
use Rattle.std.proofs.lemmas.Int.{unsigned_abs-mul}
use Rattle.plane_predicate.proofs.lemmas.IntegerRing.{sums}
use borrow.Author.Differences.{up, down, fits_in}
use mir.Syntax.{Width}
use mir.Val.{hbits}

-- the size of a number, for `omega (arith, sums, size_is)`
pub size_is : (z : ℤ) → unsigned_abs z ≡ up z + down z
size_is (pos n) = omega arith
size_is (negsuc n) = omega arith

-- a size is at most any bound on the number and its negative
pub size_by : (z : ℤ) (n : ℕ) → up z ≤ down z + n → down z ≤ up z + n → unsigned_abs z ≤ n
size_by (pos k) n h g = omega arith
size_by (negsuc k) n h g = omega arith

pub size_parts : (z : ℤ) → (up z ≤ down z + unsigned_abs z) × (down z ≤ up z + unsigned_abs z)
size_parts (pos k) = omega arith
size_parts (negsuc k) = omega arith

pub size_sum : (a b : ℤ) → unsigned_abs (a +ℤ b) ≤ unsigned_abs a + unsigned_abs b
size_sum a b = size_by (a +ℤ b) (unsigned_abs a + unsigned_abs b) (omega (arith, sums, size_parts a, size_parts b)) (omega (arith, sums, size_parts a, size_parts b))

pub size_difference : (a b : ℤ) → unsigned_abs (a -ℤ b) ≤ unsigned_abs a + unsigned_abs b
size_difference a b = size_by (a -ℤ b) (unsigned_abs a + unsigned_abs b) (omega (arith, sums, size_parts a, size_parts b)) (omega (arith, sums, size_parts a, size_parts b))

pub size_product : (a b : ℤ) (m n : ℕ) → unsigned_abs a ≤ m → unsigned_abs b ≤ n → unsigned_abs (a *ℤ b) ≤ m * n
size_product a b m n h k = rw (unsigned_abs-mul a b) (mul-le-mul h k)

-- a d - b c
pub size_minor : (a b c d : ℤ) (m n : ℕ) → unsigned_abs a ≤ m → unsigned_abs b ≤ m → unsigned_abs c ≤ n → unsigned_abs d ≤ n → unsigned_abs (a *ℤ d -ℤ b *ℤ c) ≤ 2 * (m * n)
size_minor a b c d m n ha hb hc hd = omega (arith, size_difference (a *ℤ d) (b *ℤ c), size_product a d m n ha hd, size_product b c m n hb hc)

-- a x + b y + c z
pub size_dot : (a b c x y z : ℤ) (m n : ℕ) → unsigned_abs a ≤ m → unsigned_abs b ≤ m → unsigned_abs c ≤ m → unsigned_abs x ≤ n → unsigned_abs y ≤ n → unsigned_abs z ≤ n → unsigned_abs (a *ℤ x +ℤ b *ℤ y +ℤ c *ℤ z) ≤ 3 * (m * n)
size_dot a b c x y z m n ha hb hc hx hy hz = omega (arith, size_sum (a *ℤ x +ℤ b *ℤ y) (c *ℤ z), size_sum (a *ℤ x) (b *ℤ y), size_product a x m n ha hx, size_product b y m n hb hy, size_product c z m n hc hz)

-- three products of sizes
pub three_products : (a b c x y z : ℤ) (m n : ℕ) → unsigned_abs a ≤ m → unsigned_abs b ≤ m → unsigned_abs c ≤ m → unsigned_abs x ≤ n → unsigned_abs y ≤ n → unsigned_abs z ≤ n → unsigned_abs a * unsigned_abs x + unsigned_abs b * unsigned_abs y + unsigned_abs c * unsigned_abs z ≤ 3 * (m * n)
three_products a b c x y z m n ha hb hc hx hy hz = omega (arith, mul-le-mul ha hx, mul-le-mul hb hy, mul-le-mul hc hz)

pub two_products : (a b c d : ℤ) (m n : ℕ) → unsigned_abs a ≤ m → unsigned_abs b ≤ m → unsigned_abs c ≤ n → unsigned_abs d ≤ n → unsigned_abs a * unsigned_abs d + unsigned_abs b * unsigned_abs c ≤ 2 * (m * n)
two_products a b c d m n ha hb hc hd = omega (arith, mul-le-mul ha hd, mul-le-mul hb hc)

pub fits_by_size : (w : Width) (z : ℤ) → unsigned_abs z < 2 ^ hbits w → FitsSigned w z
fits_by_size w (pos n) h = fits_in w (pos n) (omega arith)
fits_by_size w (negsuc n) h = fits_in w (negsuc n) (omega arith)

pub size_times : (a b : ℤ) → unsigned_abs (a *ℤ b) ≤ unsigned_abs a * unsigned_abs b
size_times a b = le_of_eq (unsigned_abs-mul a b)

pub three_small : (a b c x y z m n k : ℕ) → x ≤ m → y ≤ n → z ≤ k → a * m + b * n + c * k < 2 ^ 127 → a * x + b * y + c * z < 2 ^ 127
three_small a b c x y z m n k h g f l = omega (arith, mul-le-mul (le_refl a) h, mul-le-mul (le_refl b) g, mul-le-mul (le_refl c) f)

pub three_most : (a b c x y z m n k s : ℕ) → s ≤ a * x + b * y + c * z → x ≤ m → y ≤ n → z ≤ k → s ≤ a * m + b * n + c * k
three_most a b c x y z m n k s l h g f = omega (arith, mul-le-mul (le_refl a) h, mul-le-mul (le_refl b) g, mul-le-mul (le_refl c) f)

pub three_values : (a b c x y z p q r : ℤ) → x ≡ p → y ≡ q → z ≡ r → a *ℤ x +ℤ b *ℤ y +ℤ c *ℤ z ≡ a *ℤ p +ℤ b *ℤ q +ℤ c *ℤ r
three_values a b c x y z p q r h g f = rw (h, g, f) refl

-- the sizes of three products of equal numbers
pub same_products : (a b c x y z d e f u v w : ℤ) → a ≡ d → b ≡ e → c ≡ f → x ≡ u → y ≡ v → z ≡ w →
    unsigned_abs a * unsigned_abs x + unsigned_abs b * unsigned_abs y + unsigned_abs c * unsigned_abs z ≡ unsigned_abs d * unsigned_abs u + unsigned_abs e * unsigned_abs v + unsigned_abs f * unsigned_abs w
same_products a b c x y z d e f u v w ha hb hc hx hy hz = rw (ha, hb, hc, hx, hy, hz) refl
