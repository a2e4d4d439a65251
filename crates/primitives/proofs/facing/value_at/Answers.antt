use Rattle.std.proofs.Common.{rules, ◌-ℤ◌, ◌∙◌, ap₂, sym, pos, arith, w64, to_z-of_z, FitsSigned}
use Rattle.plane_predicate.specs.Space.{point_at}
use Rattle.plane_predicate.proofs.lemmas.IntegerRing.{mul_comm_ℤ, one_mul}
use Rattle.plane_predicate.proofs.lemmas.Sizes.{fits_by_size, size_difference}
use Rattle.primitives.proofs.facing.value_at.Goals as goal

pub overflow_sub-result : goal.overflow_sub-result
overflow_sub-result c =
    let m = c.m.inside in
    let fo : FitsSigned w64 c.offset.result = search rules in
    let fd : FitsSigned w64 m.d = fits_by_size w64 m.d (omega (arith, c.m.invariant.d_size)) in
    simp to_z-of_z (fits_by_size w64 (c.offset.result -ℤ m.d) (omega (arith, size_difference c.offset.result m.d, c.m.invariant.d_size, c.offset.ensures.size)))

pub returns : goal.returns
returns c =
    let m = c.m.inside in let p = point_at c.args.at in
    let fx : FitsSigned w64 p.x = fits_by_size w64 p.x (omega (arith, c.requires.x_size)) in
    let fy : FitsSigned w64 p.y = fits_by_size w64 p.y (omega (arith, c.requires.y_size)) in
    let fz : FitsSigned w64 p.z = fits_by_size w64 p.z (omega (arith, c.requires.z_size)) in
    let fa : FitsSigned w64 m.a = fits_by_size w64 m.a (omega (arith, c.m.invariant.a_size)) in
    let fb : FitsSigned w64 m.b = fits_by_size w64 m.b (omega (arith, c.m.invariant.b_size)) in
    let fc : FitsSigned w64 m.c = fits_by_size w64 m.c (omega (arith, c.m.invariant.c_size)) in
    let fd : FitsSigned w64 m.d = fits_by_size w64 m.d (omega (arith, c.m.invariant.d_size)) in
    let fo : FitsSigned w64 c.offset.result = search rules in
    let fv : FitsSigned w64 (c.offset.result -ℤ m.d) = fits_by_size w64 (c.offset.result -ℤ m.d) (omega (arith, size_difference c.offset.result m.d, c.m.invariant.d_size, c.offset.ensures.size)) in
    let e = simp to_z-of_z at c.offset.ensures.value in
    rw (← c.m.view_is) (simp to_z-of_z (ap₂ ◌-ℤ◌ e (sym (mul_comm_ℤ m.d (pos 1) ∙ one_mul m.d))))
