use Rattle.std.proofs.Common.{rules, ◌≡◌, ◌*ℤ◌, pos, unsigned_abs, ℕ, subst, to_z-of_z, FitsSigned}
use Rattle.plane_predicate.specs.Space.{Coordinates}
use Rattle.off_text.proofs.lemmas.Factors.{divided_point}
use Prim.Native.Nat.{◌∣◌}
use mir.Syntax.{w64, w128}
use Rattle.off_text.proofs.lowest.Small.lowest_terms.Goals as goal

pub quotient-requires-clause-divides : goal.quotient-requires-clause-divides
quotient-requires-clause-divides c =
    let fits : FitsSigned w64 c.self.inside.x = search rules in
    let size : c.unsigned_abs.result ≡ unsigned_abs c.self.inside.x = simp to_z-of_z at c.unsigned_abs.ensures.value in
    simp to_z-of_z (subst (λ (n : ℕ). c.common_factor-by.result ∣ n) size c.common_factor-by.ensures.factor.divides_x)

pub quotient-requires-2-clause-divides : goal.quotient-requires-2-clause-divides
quotient-requires-2-clause-divides c =
    let fits : FitsSigned w64 c.self.inside.y = search rules in
    let size : c.unsigned_abs-2.result ≡ unsigned_abs c.self.inside.y = simp to_z-of_z at c.unsigned_abs-2.ensures.value in
    simp to_z-of_z (subst (λ (n : ℕ). c.common_factor-by.result ∣ n) size c.common_factor-by.ensures.factor.divides_y)

pub quotient-requires-3-clause-divides : goal.quotient-requires-3-clause-divides
quotient-requires-3-clause-divides c =
    let fits : FitsSigned w64 c.self.inside.z = search rules in
    let size : c.unsigned_abs-3.result ≡ unsigned_abs c.self.inside.z = simp to_z-of_z at c.unsigned_abs-3.ensures.value in
    simp to_z-of_z (subst (λ (n : ℕ). c.common_factor-by.result ∣ n) size c.common_factor-by.ensures.factor.divides_z)

pub quotient-requires-4-clause-divides : goal.quotient-requires-4-clause-divides
quotient-requires-4-clause-divides c =
    let fits : FitsSigned w64 c.self.inside.w = search rules in
    let size : c.unsigned_abs-4.result ≡ unsigned_abs c.self.inside.w = simp to_z-of_z at c.unsigned_abs-4.ensures.value in
    simp to_z-of_z (subst (λ (n : ℕ). c.common_factor-by.result ∣ n) size c.common_factor-by.ensures.factor.divides_w)

pub invariant_of-result : goal.invariant_of-result
invariant_of-result c =
    let ix : FitsSigned w64 c.self.inside.x = search rules in
    let lx : FitsSigned w128 c.quotient.result = search rules in
    let ux : c.unsigned_abs.result ≡ unsigned_abs c.self.inside.x = simp to_z-of_z at c.unsigned_abs.ensures.value in
    let ex : c.self.inside.x ≡ pos c.common_factor-by.result *ℤ c.quotient.result = simp to_z-of_z at c.quotient.ensures in
    let iy : FitsSigned w64 c.self.inside.y = search rules in
    let ly : FitsSigned w128 c.quotient-2.result = search rules in
    let uy : c.unsigned_abs-2.result ≡ unsigned_abs c.self.inside.y = simp to_z-of_z at c.unsigned_abs-2.ensures.value in
    let ey : c.self.inside.y ≡ pos c.common_factor-by.result *ℤ c.quotient-2.result = simp to_z-of_z at c.quotient-2.ensures in
    let iz : FitsSigned w64 c.self.inside.z = search rules in
    let lz : FitsSigned w128 c.quotient-3.result = search rules in
    let uz : c.unsigned_abs-3.result ≡ unsigned_abs c.self.inside.z = simp to_z-of_z at c.unsigned_abs-3.ensures.value in
    let ez : c.self.inside.z ≡ pos c.common_factor-by.result *ℤ c.quotient-3.result = simp to_z-of_z at c.quotient-3.ensures in
    let iw : FitsSigned w64 c.self.inside.w = search rules in
    let lw : FitsSigned w128 c.quotient-4.result = search rules in
    let uw : c.unsigned_abs-4.result ≡ unsigned_abs c.self.inside.w = simp to_z-of_z at c.unsigned_abs-4.ensures.value in
    let ew : c.self.inside.w ≡ pos c.common_factor-by.result *ℤ c.quotient-4.result = simp to_z-of_z at c.quotient-4.ensures in
    let p : Coordinates = record { x = c.self.inside.x; y = c.self.inside.y; z = c.self.inside.z; w = c.self.inside.w } in
    let q : Coordinates = record { x = c.quotient.result; y = c.quotient-2.result; z = c.quotient-3.result; w = c.quotient-4.result } in
    let all = divided_point p q c.unsigned_abs.result c.unsigned_abs-2.result c.unsigned_abs-3.result c.unsigned_abs-4.result c.common_factor-by.result c.self.invariant ux uy uz uw c.common_factor-by.ensures.factor ex ey ez ew in
    simp to_z-of_z all.0

pub returns-clause-same : goal.returns-clause-same
returns-clause-same c =
    let ix : FitsSigned w64 c.self.inside.x = search rules in
    let lx : FitsSigned w128 c.quotient.result = search rules in
    let ux : c.unsigned_abs.result ≡ unsigned_abs c.self.inside.x = simp to_z-of_z at c.unsigned_abs.ensures.value in
    let ex : c.self.inside.x ≡ pos c.common_factor-by.result *ℤ c.quotient.result = simp to_z-of_z at c.quotient.ensures in
    let iy : FitsSigned w64 c.self.inside.y = search rules in
    let ly : FitsSigned w128 c.quotient-2.result = search rules in
    let uy : c.unsigned_abs-2.result ≡ unsigned_abs c.self.inside.y = simp to_z-of_z at c.unsigned_abs-2.ensures.value in
    let ey : c.self.inside.y ≡ pos c.common_factor-by.result *ℤ c.quotient-2.result = simp to_z-of_z at c.quotient-2.ensures in
    let iz : FitsSigned w64 c.self.inside.z = search rules in
    let lz : FitsSigned w128 c.quotient-3.result = search rules in
    let uz : c.unsigned_abs-3.result ≡ unsigned_abs c.self.inside.z = simp to_z-of_z at c.unsigned_abs-3.ensures.value in
    let ez : c.self.inside.z ≡ pos c.common_factor-by.result *ℤ c.quotient-3.result = simp to_z-of_z at c.quotient-3.ensures in
    let iw : FitsSigned w64 c.self.inside.w = search rules in
    let lw : FitsSigned w128 c.quotient-4.result = search rules in
    let uw : c.unsigned_abs-4.result ≡ unsigned_abs c.self.inside.w = simp to_z-of_z at c.unsigned_abs-4.ensures.value in
    let ew : c.self.inside.w ≡ pos c.common_factor-by.result *ℤ c.quotient-4.result = simp to_z-of_z at c.quotient-4.ensures in
    let p : Coordinates = record { x = c.self.inside.x; y = c.self.inside.y; z = c.self.inside.z; w = c.self.inside.w } in
    let q : Coordinates = record { x = c.quotient.result; y = c.quotient-2.result; z = c.quotient-3.result; w = c.quotient-4.result } in
    let all = divided_point p q c.unsigned_abs.result c.unsigned_abs-2.result c.unsigned_abs-3.result c.unsigned_abs-4.result c.common_factor-by.result c.self.invariant ux uy uz uw c.common_factor-by.ensures.factor ex ey ez ew in
    rw (← c.self.view_is) (simp to_z-of_z all.1)

pub returns-clause-reduced : goal.returns-clause-reduced
returns-clause-reduced c =
    let ix : FitsSigned w64 c.self.inside.x = search rules in
    let lx : FitsSigned w128 c.quotient.result = search rules in
    let ux : c.unsigned_abs.result ≡ unsigned_abs c.self.inside.x = simp to_z-of_z at c.unsigned_abs.ensures.value in
    let ex : c.self.inside.x ≡ pos c.common_factor-by.result *ℤ c.quotient.result = simp to_z-of_z at c.quotient.ensures in
    let iy : FitsSigned w64 c.self.inside.y = search rules in
    let ly : FitsSigned w128 c.quotient-2.result = search rules in
    let uy : c.unsigned_abs-2.result ≡ unsigned_abs c.self.inside.y = simp to_z-of_z at c.unsigned_abs-2.ensures.value in
    let ey : c.self.inside.y ≡ pos c.common_factor-by.result *ℤ c.quotient-2.result = simp to_z-of_z at c.quotient-2.ensures in
    let iz : FitsSigned w64 c.self.inside.z = search rules in
    let lz : FitsSigned w128 c.quotient-3.result = search rules in
    let uz : c.unsigned_abs-3.result ≡ unsigned_abs c.self.inside.z = simp to_z-of_z at c.unsigned_abs-3.ensures.value in
    let ez : c.self.inside.z ≡ pos c.common_factor-by.result *ℤ c.quotient-3.result = simp to_z-of_z at c.quotient-3.ensures in
    let iw : FitsSigned w64 c.self.inside.w = search rules in
    let lw : FitsSigned w128 c.quotient-4.result = search rules in
    let uw : c.unsigned_abs-4.result ≡ unsigned_abs c.self.inside.w = simp to_z-of_z at c.unsigned_abs-4.ensures.value in
    let ew : c.self.inside.w ≡ pos c.common_factor-by.result *ℤ c.quotient-4.result = simp to_z-of_z at c.quotient-4.ensures in
    let p : Coordinates = record { x = c.self.inside.x; y = c.self.inside.y; z = c.self.inside.z; w = c.self.inside.w } in
    let q : Coordinates = record { x = c.quotient.result; y = c.quotient-2.result; z = c.quotient-3.result; w = c.quotient-4.result } in
    let all = divided_point p q c.unsigned_abs.result c.unsigned_abs-2.result c.unsigned_abs-3.result c.unsigned_abs-4.result c.common_factor-by.result c.self.invariant ux uy uz uw c.common_factor-by.ensures.factor ex ey ez ew in
    simp to_z-of_z all.2
