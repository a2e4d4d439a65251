-- Four points of one plane.
use Rattle.std.proofs.Common.{◌≡◌, refl, sym, ap, ◌∙◌, arith, ℤ, pos, ◌+ℤ◌, ◌-ℤ◌, ◌*ℤ◌, ◌<ℤ◌}
use Rattle.std.proofs.Math.IntN.{*ℤ-zero, zero-*ℤ}
use Rattle.plane_predicate.specs.Space.{Coefficients, Coordinates, value, orientation_seen_from, inner_product}
use Rattle.plane_predicate.proofs.lemmas.IntegerRing.{sums, mul_comm_ℤ}
use Rattle.plane_predicate.proofs.lemmas.Identities.{dependent, volume}
use Rattle.plane_predicate.proofs.lemmas.Signs.{zero_cancel}

-- the sum in dependent, where all four are on m
vanish : (t u v s a b c d : ℤ) → a ≡ pos 0 → b ≡ pos 0 → c ≡ pos 0 → d ≡ pos 0 → t *ℤ a -ℤ u *ℤ b +ℤ v *ℤ c -ℤ s *ℤ d ≡ pos 0
vanish t u v s a b c d ha hb hc hd = rw (ha, hb, hc, hd, *ℤ-zero t, *ℤ-zero u, *ℤ-zero v, *ℤ-zero s) refl

no_volume : (n : Coefficients) → pos 0 <ℤ inner_product n n → (a b p q : Coordinates) → value n a ≡ pos 0 → value n b ≡ pos 0 → value n p ≡ pos 0 → value n q ≡ pos 0 → volume a b p q ≡ pos 0
no_volume n h a b p q ha hb hp hq =
    let e = sym (vanish (orientation_seen_from n b p q) (orientation_seen_from n a p q) (orientation_seen_from n a b q) (orientation_seen_from n a b p) _ _ _ _ ha hb hp hq) ∙ dependent n n a b p q in
    zero_cancel (inner_product n n) (volume a b p q) h (omega (arith, sums, mul_comm_ℤ (inner_product n n) (volume a b p q)))

-- what every plane m says of four points of n
pub four_points : (n : Coefficients) → pos 0 <ℤ inner_product n n → (a b p q : Coordinates) → value n a ≡ pos 0 → value n b ≡ pos 0 → value n p ≡ pos 0 → value n q ≡ pos 0 → (m : Coefficients) →
    orientation_seen_from n b p q *ℤ value m a -ℤ orientation_seen_from n a p q *ℤ value m b +ℤ orientation_seen_from n a b q *ℤ value m p -ℤ orientation_seen_from n a b p *ℤ value m q ≡ pos 0
four_points n h a b p q ha hb hp hq m =
    dependent m n a b p q ∙ ap (λ (v : ℤ). pos 0 -ℤ v *ℤ inner_product m n) (no_volume n h a b p q ha hb hp hq) ∙ omega (arith, sums, zero-*ℤ (inner_product m n))
