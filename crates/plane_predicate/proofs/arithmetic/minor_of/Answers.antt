use Rattle.std.proofs.Common.{◌*ℤ◌, ◌-ℤ◌, arith, w64, to_z-of_z, FitsSigned}
use Rattle.plane_predicate.proofs.lemmas.Sizes.{fits_by_size, size_product, size_minor}
use Rattle.plane_predicate.proofs.arithmetic.minor_of.Goals as goal

pub overflow_sub-result : goal.overflow_sub-result
overflow_sub-result c =
    let a = c.ranges.a in let b = c.ranges.b in let e = c.ranges.c in let d = c.ranges.d in
    let s1 = size_product c.args.a c.args.d 134152200 134152200 c.requires.a_size c.requires.d_size in
    let s2 = size_product c.args.b c.args.c 134152200 134152200 c.requires.b_size c.requires.c_size in
    let f1 : FitsSigned w64 (c.args.a *ℤ c.args.d) = fits_by_size w64 (c.args.a *ℤ c.args.d) (omega arith) in
    let f2 : FitsSigned w64 (c.args.b *ℤ c.args.c) = fits_by_size w64 (c.args.b *ℤ c.args.c) (omega arith) in
    let s = size_minor c.args.a c.args.b c.args.c c.args.d 134152200 134152200 c.requires.a_size c.requires.b_size c.requires.c_size c.requires.d_size in
    simp to_z-of_z (fits_by_size w64 (c.args.a *ℤ c.args.d -ℤ c.args.b *ℤ c.args.c) (omega arith))

pub returns-clause-value : goal.returns-clause-value
returns-clause-value c =
    let a = c.ranges.a in let b = c.ranges.b in let e = c.ranges.c in let d = c.ranges.d in
    let s1 = size_product c.args.a c.args.d 134152200 134152200 c.requires.a_size c.requires.d_size in
    let s2 = size_product c.args.b c.args.c 134152200 134152200 c.requires.b_size c.requires.c_size in
    let f1 : FitsSigned w64 (c.args.a *ℤ c.args.d) = fits_by_size w64 (c.args.a *ℤ c.args.d) (omega arith) in
    let f2 : FitsSigned w64 (c.args.b *ℤ c.args.c) = fits_by_size w64 (c.args.b *ℤ c.args.c) (omega arith) in
    let s = size_minor c.args.a c.args.b c.args.c c.args.d 134152200 134152200 c.requires.a_size c.requires.b_size c.requires.c_size c.requires.d_size in
    let f3 : FitsSigned w64 (c.args.a *ℤ c.args.d -ℤ c.args.b *ℤ c.args.c) = fits_by_size w64 (c.args.a *ℤ c.args.d -ℤ c.args.b *ℤ c.args.c) (omega arith) in
    simp to_z-of_z

pub returns-clause-size : goal.returns-clause-size
returns-clause-size c =
    let a = c.ranges.a in let b = c.ranges.b in let e = c.ranges.c in let d = c.ranges.d in
    let s1 = size_product c.args.a c.args.d 134152200 134152200 c.requires.a_size c.requires.d_size in
    let s2 = size_product c.args.b c.args.c 134152200 134152200 c.requires.b_size c.requires.c_size in
    let f1 : FitsSigned w64 (c.args.a *ℤ c.args.d) = fits_by_size w64 (c.args.a *ℤ c.args.d) (omega arith) in
    let f2 : FitsSigned w64 (c.args.b *ℤ c.args.c) = fits_by_size w64 (c.args.b *ℤ c.args.c) (omega arith) in
    let s = size_minor c.args.a c.args.b c.args.c c.args.d 134152200 134152200 c.requires.a_size c.requires.b_size c.requires.c_size c.requires.d_size in
    let f3 : FitsSigned w64 (c.args.a *ℤ c.args.d -ℤ c.args.b *ℤ c.args.c) = fits_by_size w64 (c.args.a *ℤ c.args.d -ℤ c.args.b *ℤ c.args.c) (omega arith) in
    simp to_z-of_z (omega arith)
