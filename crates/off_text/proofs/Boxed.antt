-- Whether a point lies in the closed world box doesn't depend on its numbers.
use Rattle.std.proofs.Common.{◌≡◌, ℕ, ◌*◌, ◌<◌, ◌≤◌, sym, ap, ◌∙◌, subst, arith, ℤ, pos, ◌*ℤ◌, ◌<ℤ◌, unsigned_abs}
use Rattle.std.proofs.Math.Nat.{le_of_mul-le-mul_left}
use Rattle.std.proofs.lemmas.Int.{unsigned_abs-mul}
use Rattle.std.proofs.lemmas.Nat.{mul-le}
use Rattle.plane_predicate.specs.declared.unit.Unit.{Unit as LengthUnit}
use Rattle.plane_predicate.specs.Space.{Coordinates, IsPointTimes, IsInClosedWorld}
use Rattle.plane_predicate.specs.InUnits.{in_steps, in_units}
use Rattle.plane_predicate.proofs.lemmas.Signs.{pos_cancel, pos_pos}
use Rattle.off_text.proofs.lemmas.Scaled.{AreOnePoint, printed_is}
use Rattle.off_text.proofs.lemmas.Factors.{size_above}

cancel : (k a b : ℕ) → 0 < k → k * a ≤ k * b → a ≤ b
cancel k a b h l = le_of_mul-le-mul_left l h

sizes-alike : (k x l y : ℤ) → k *ℤ x ≡ l *ℤ y → unsigned_abs k * unsigned_abs x ≡ unsigned_abs l * unsigned_abs y
sizes-alike k x l y e = sym (unsigned_abs-mul k x) ∙ ap unsigned_abs e ∙ unsigned_abs-mul l y

out_of : (k b : ℕ) → k * (4096 * b) ≡ 4096 * (k * b)
out_of k b = omega arith

-- sizes that are in one proportion
in_proportion : (k l a b c d : ℕ) → 0 < l → k * a ≡ l * c → k * b ≡ l * d → a ≤ 4096 * b → c ≤ 4096 * d
in_proportion k l a b c d h e f m =
    let more : k * a ≤ k * (4096 * b) = mul-le k a k (4096 * b) (omega arith) m in
    cancel l c (4096 * d) h
    (omega (arith, more, e, out_of k b, out_of l d, ap (λ (n : ℕ). 4096 * n) f))

within : (x w k l y v : ℤ) → pos 0 <ℤ l → k *ℤ x ≡ l *ℤ y → k *ℤ w ≡ l *ℤ v → unsigned_abs x ≤ 4096 * unsigned_abs w → unsigned_abs y ≤ 4096 * unsigned_abs v
within x w k l y v h e f =
    in_proportion (unsigned_abs k) (unsigned_abs l) (unsigned_abs x) (unsigned_abs w) (unsigned_abs y) (unsigned_abs v)
    (size_above l h) (sizes-alike k x l y e) (sizes-alike k w l v f)

boxed_alike : (p q : Coordinates) → AreOnePoint p q → IsInClosedWorld p → IsInClosedWorld q
boxed_alike p q t h = record {
  weight = pos_cancel t.second q.w t.second_above
      (subst (λ (w : ℤ). pos 0 <ℤ w) t.w (pos_pos t.first p.w t.first_above h.weight));
  x_size = within p.x p.w t.first t.second q.x q.w t.second_above t.x t.w h.x_size;
  y_size = within p.y p.w t.first t.second q.y q.w t.second_above t.y t.w h.y_size;
  z_size = within p.z p.w t.first t.second q.z q.w t.second_above t.z t.w h.z_size;
}

-- a printed corner is in the closed box where the corner is
pub boxed : (unit : LengthUnit) (p v : Coordinates) → IsPointTimes (in_units unit p) v → IsInClosedWorld p → IsInClosedWorld (in_steps unit v)
boxed unit p v t h = boxed_alike p (in_steps unit v) (printed_is unit p v t) h
