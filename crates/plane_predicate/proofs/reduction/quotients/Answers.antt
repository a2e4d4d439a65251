use Rattle.std.proofs.Common.{rules, ◌≡◌, ◌*ℤ◌, pos, unsigned_abs, ℕ, to_z-of_z, FitsSigned, subst}
use Rattle.plane_predicate.proofs.lemmas.Divisions.{quotients_of, same_factor}
use Prim.Native.Nat.{◌∣◌}
use mir.Syntax.{w128}
use Rattle.plane_predicate.proofs.reduction.quotients.Goals as goal

pub divided-requires-clause-divides : goal.divided-requires-clause-divides
divided-requires-clause-divides c =
    let rx = c.ranges.x in
    let ux : c.unsigned_abs.result ≡ unsigned_abs c.args.x = simp to_z-of_z at c.unsigned_abs.ensures.value in
    simp to_z-of_z (subst (λ (n : ℕ). c.common_factor-by.result ∣ n) ux c.common_factor-by.ensures.factor.divides_x)

pub divided-requires-2-clause-divides : goal.divided-requires-2-clause-divides
divided-requires-2-clause-divides c =
    let ry = c.ranges.y in
    let uy : c.unsigned_abs-2.result ≡ unsigned_abs c.args.y = simp to_z-of_z at c.unsigned_abs-2.ensures.value in
    simp to_z-of_z (subst (λ (n : ℕ). c.common_factor-by.result ∣ n) uy c.common_factor-by.ensures.factor.divides_y)

pub divided-requires-3-clause-divides : goal.divided-requires-3-clause-divides
divided-requires-3-clause-divides c =
    let rz = c.ranges.z in
    let uz : c.unsigned_abs-3.result ≡ unsigned_abs c.args.z = simp to_z-of_z at c.unsigned_abs-3.ensures.value in
    simp to_z-of_z (subst (λ (n : ℕ). c.common_factor-by.result ∣ n) uz c.common_factor-by.ensures.factor.divides_z)

pub divided-requires-4-clause-divides : goal.divided-requires-4-clause-divides
divided-requires-4-clause-divides c =
    let rw = c.ranges.w in
    let uw : c.unsigned_abs-4.result ≡ unsigned_abs c.args.w = simp to_z-of_z at c.unsigned_abs-4.ensures.value in
    simp to_z-of_z (subst (λ (n : ℕ). c.common_factor-by.result ∣ n) uw c.common_factor-by.ensures.factor.divides_w)

pub returns : goal.returns
returns c =
    let rx = c.ranges.x in
    let ux : c.unsigned_abs.result ≡ unsigned_abs c.args.x = simp to_z-of_z at c.unsigned_abs.ensures.value in
    let ry = c.ranges.y in
    let uy : c.unsigned_abs-2.result ≡ unsigned_abs c.args.y = simp to_z-of_z at c.unsigned_abs-2.ensures.value in
    let rz = c.ranges.z in
    let uz : c.unsigned_abs-3.result ≡ unsigned_abs c.args.z = simp to_z-of_z at c.unsigned_abs-3.ensures.value in
    let rw = c.ranges.w in
    let uw : c.unsigned_abs-4.result ≡ unsigned_abs c.args.w = simp to_z-of_z at c.unsigned_abs-4.ensures.value in
    let fx : FitsSigned w128 c.divided.result = search rules in
    let ex : c.args.x ≡ pos c.common_factor-by.result *ℤ c.divided.result = simp to_z-of_z at c.divided.ensures in
    let fy : FitsSigned w128 c.divided-2.result = search rules in
    let ey : c.args.y ≡ pos c.common_factor-by.result *ℤ c.divided-2.result = simp to_z-of_z at c.divided-2.ensures in
    let fz : FitsSigned w128 c.divided-3.result = search rules in
    let ez : c.args.z ≡ pos c.common_factor-by.result *ℤ c.divided-3.result = simp to_z-of_z at c.divided-3.ensures in
    let fw : FitsSigned w128 c.divided-4.result = search rules in
    let ew : c.args.w ≡ pos c.common_factor-by.result *ℤ c.divided-4.result = simp to_z-of_z at c.divided-4.ensures in
    simp to_z-of_z
    (quotients_of c.args.x c.args.y c.args.z c.args.w c.divided.result c.divided-2.result c.divided-3.result c.divided-4.result c.common_factor-by.result c.requires.some
    (same_factor _ _ _ _ (unsigned_abs c.args.x) (unsigned_abs c.args.y) (unsigned_abs c.args.z) (unsigned_abs c.args.w) c.common_factor-by.result ux uy uz uw c.common_factor-by.ensures.factor) ex ey ez ew)
