-- Numbers that are at most 65535 in size.
use Rattle.std.proofs.Common.{◌≡◌, ℤ, sym, subst, ◌≤◌, unsigned_abs}
use Rattle.round_four.specs.Cylinders.{AreFourInRange}

pub not_near : (a b c d e f g h : ℤ) → a ≡ e → b ≡ f → c ≡ g → d ≡ h → (AreFourInRange a b c d → ⊥) → AreFourInRange e f g h → ⊥
not_near a b c d e f g h ha hb hc hd far near = far (record {
  first = subst (λ (n : ℤ). unsigned_abs n ≤ 65535) (sym ha) near.first;
  second = subst (λ (n : ℤ). unsigned_abs n ≤ 65535) (sym hb) near.second;
  third = subst (λ (n : ℤ). unsigned_abs n ≤ 65535) (sym hc) near.third;
  fourth = subst (λ (n : ℤ). unsigned_abs n ≤ 65535) (sym hd) near.fourth;
})
