-- The vertex at a corner.
use Rattle.std.proofs.Common.{◌≡◌, sym, ap, ◌∙◌, ℤ, ◌*ℤ◌}
use Rattle.plane_predicate.specs.declared.unit.Unit.{Unit as LengthUnit}
use Rattle.plane_predicate.specs.Space.{Coordinates, IsPointTimes}
use Rattle.plane_predicate.specs.InUnits.{in_units}
use Rattle.plane_predicate.specs.Units.{grid_steps_per_unit}
use Rattle.plane_predicate.proofs.lemmas.IntegerRing.{mul_assoc_ℤ, mul_comm_ℤ}
use Rattle.plane_predicate.proofs.lemmas.Signs.{pos_pos}

-- a corner's multiple in units, and then reduced
weight_times : (k l m w u v : ℤ) → w ≡ l *ℤ u → k *ℤ u ≡ m *ℤ v → k *ℤ w ≡ (l *ℤ m) *ℤ v
weight_times k l m w u v e f =
    ap (λ (n : ℤ). k *ℤ n) e ∙ sym (mul_assoc_ℤ k l u) ∙ ap (λ (n : ℤ). n *ℤ u) (mul_comm_ℤ k l) ∙ mul_assoc_ℤ l k u
    ∙ ap (λ (n : ℤ). l *ℤ n) f ∙ sym (mul_assoc_ℤ l m v)

part_times : (l m x u v : ℤ) → x ≡ l *ℤ u → u ≡ m *ℤ v → x ≡ (l *ℤ m) *ℤ v
part_times l m x u v e f = e ∙ ap (λ (n : ℤ). l *ℤ n) f ∙ sym (mul_assoc_ℤ l m v)

pub times_again : (unit : LengthUnit) (p q v : Coordinates) → IsPointTimes p q → IsPointTimes (in_units unit q) v → IsPointTimes (in_units unit p) v
times_again unit p q v t u = record {
  by = t.by *ℤ u.by;
  above = pos_pos t.by u.by t.above u.above;
  x = part_times t.by u.by p.x q.x v.x t.x u.x;
  y = part_times t.by u.by p.y q.y v.y t.y u.y;
  z = part_times t.by u.by p.z q.z v.z t.z u.z;
  w = weight_times (grid_steps_per_unit unit) t.by u.by p.w q.w v.w t.w u.w;
}
