use Rattle.std.proofs.Common.{rules, arith, w64, to_z-of_z, FitsSigned}
use Rattle.plane_predicate.proofs.lemmas.Sizes.{two_products}
use Rattle.plane_predicate.proofs.small_arithmetic.cross_part.Goals as goal

pub minus-requires : goal.minus-requires
minus-requires c =
    let r0 = c.ranges.a in let r1 = c.ranges.b in let r2 = c.ranges.c in let r3 = c.ranges.d in
    let f1 : FitsSigned w64 c.times.result = search rules in
    let f2 : FitsSigned w64 c.times-2.result = search rules in
    let s1 = simp to_z-of_z at c.times.ensures.size in
    let s2 = simp to_z-of_z at c.times-2.ensures.size in
    simp to_z-of_z (omega (arith, two_products c.args.a c.args.b c.args.c c.args.d 100000 100000 c.requires.a_size c.requires.b_size c.requires.c_size c.requires.d_size))

pub returns-clause-size : goal.returns-clause-size
returns-clause-size c =
    let r0 = c.ranges.a in let r1 = c.ranges.b in let r2 = c.ranges.c in let r3 = c.ranges.d in
    let f1 : FitsSigned w64 c.times.result = search rules in
    let f2 : FitsSigned w64 c.times-2.result = search rules in
    let f3 : FitsSigned w64 c.minus.result = search rules in
    let s1 = simp to_z-of_z at c.times.ensures.size in
    let s2 = simp to_z-of_z at c.times-2.ensures.size in
    let s3 = simp to_z-of_z at c.minus.ensures.size in
    simp to_z-of_z (omega (arith, two_products c.args.a c.args.b c.args.c c.args.d 100000 100000 c.requires.a_size c.requires.b_size c.requires.c_size c.requires.d_size))
