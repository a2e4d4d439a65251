use Rattle.std.proofs.Common.{rules, ◌∙◌, ◌-ℤ◌, arith, w64, to_z-of_z, FitsSigned}
use Rattle.plane_predicate.proofs.lemmas.Sizes.{fits_by_size, size_difference}
use Rattle.plane_predicate.proofs.through.minor_between.Goals as goal

pub returns-clause-value : goal.returns-clause-value
returns-clause-value c =
    let r1 = c.ranges.py in let r2 = c.ranges.pz in let r3 = c.ranges.qy in let r4 = c.ranges.qz in let r5 = c.ranges.ry in let r6 = c.ranges.rz in
    let f1 : FitsSigned w64 (c.args.qy -ℤ c.args.py) = fits_by_size w64 (c.args.qy -ℤ c.args.py) (omega (arith, size_difference c.args.qy c.args.py)) in
    let f2 : FitsSigned w64 (c.args.qz -ℤ c.args.pz) = fits_by_size w64 (c.args.qz -ℤ c.args.pz) (omega (arith, size_difference c.args.qz c.args.pz)) in
    let f3 : FitsSigned w64 (c.args.ry -ℤ c.args.py) = fits_by_size w64 (c.args.ry -ℤ c.args.py) (omega (arith, size_difference c.args.ry c.args.py)) in
    let f4 : FitsSigned w64 (c.args.rz -ℤ c.args.pz) = fits_by_size w64 (c.args.rz -ℤ c.args.pz) (omega (arith, size_difference c.args.rz c.args.pz)) in
    let f5 : FitsSigned w64 c.small_minor.result = search rules in
    let v = simp to_z-of_z at c.small_minor.ensures.value in
    to_z-of_z f5 ∙ v
