use Rattle.std.proofs.Common.{◌*ℤ◌, ◌+ℤ◌, arith, w64, to_z-of_z, FitsSigned}
use Rattle.plane_predicate.proofs.lemmas.Sizes.{fits_by_size, size_product, size_sum}
use Rattle.primitives.proofs.facing.offset.Goals as goal

pub overflow_add-result : goal.overflow_add-result
overflow_add-result c =
    let ra = c.ranges.a in let rb = c.ranges.b in let rc = c.ranges.c in let rx = c.ranges.x in let ry = c.ranges.y in let rz = c.ranges.z in
    let s1 = size_product c.args.a c.args.x 137434759200 131070 c.requires.a_size c.requires.x_size in
    let s2 = size_product c.args.b c.args.y 137434759200 131070 c.requires.b_size c.requires.y_size in
    let s3 = size_product c.args.c c.args.z 137434759200 131070 c.requires.c_size c.requires.z_size in
    let s4 = size_sum (c.args.a *ℤ c.args.x) (c.args.b *ℤ c.args.y) in
    let s5 = size_sum (c.args.a *ℤ c.args.x +ℤ c.args.b *ℤ c.args.y) (c.args.c *ℤ c.args.z) in
    let f1 : FitsSigned w64 (c.args.a *ℤ c.args.x) = fits_by_size w64 (c.args.a *ℤ c.args.x) (omega arith) in
    let f2 : FitsSigned w64 (c.args.b *ℤ c.args.y) = fits_by_size w64 (c.args.b *ℤ c.args.y) (omega arith) in
    let f3 : FitsSigned w64 (c.args.c *ℤ c.args.z) = fits_by_size w64 (c.args.c *ℤ c.args.z) (omega arith) in
    let f4 : FitsSigned w64 (c.args.a *ℤ c.args.x +ℤ c.args.b *ℤ c.args.y) = fits_by_size w64 (c.args.a *ℤ c.args.x +ℤ c.args.b *ℤ c.args.y) (omega arith) in
    let f5 : FitsSigned w64 (c.args.a *ℤ c.args.x +ℤ c.args.b *ℤ c.args.y +ℤ c.args.c *ℤ c.args.z) = fits_by_size w64 (c.args.a *ℤ c.args.x +ℤ c.args.b *ℤ c.args.y +ℤ c.args.c *ℤ c.args.z) (omega arith) in
    simp to_z-of_z f4

pub overflow_mul-result-3 : goal.overflow_mul-result-3
overflow_mul-result-3 c =
    let ra = c.ranges.a in let rb = c.ranges.b in let rc = c.ranges.c in let rx = c.ranges.x in let ry = c.ranges.y in let rz = c.ranges.z in
    let s1 = size_product c.args.a c.args.x 137434759200 131070 c.requires.a_size c.requires.x_size in
    let s2 = size_product c.args.b c.args.y 137434759200 131070 c.requires.b_size c.requires.y_size in
    let s3 = size_product c.args.c c.args.z 137434759200 131070 c.requires.c_size c.requires.z_size in
    let s4 = size_sum (c.args.a *ℤ c.args.x) (c.args.b *ℤ c.args.y) in
    let s5 = size_sum (c.args.a *ℤ c.args.x +ℤ c.args.b *ℤ c.args.y) (c.args.c *ℤ c.args.z) in
    let f1 : FitsSigned w64 (c.args.a *ℤ c.args.x) = fits_by_size w64 (c.args.a *ℤ c.args.x) (omega arith) in
    let f2 : FitsSigned w64 (c.args.b *ℤ c.args.y) = fits_by_size w64 (c.args.b *ℤ c.args.y) (omega arith) in
    let f3 : FitsSigned w64 (c.args.c *ℤ c.args.z) = fits_by_size w64 (c.args.c *ℤ c.args.z) (omega arith) in
    let f4 : FitsSigned w64 (c.args.a *ℤ c.args.x +ℤ c.args.b *ℤ c.args.y) = fits_by_size w64 (c.args.a *ℤ c.args.x +ℤ c.args.b *ℤ c.args.y) (omega arith) in
    let f5 : FitsSigned w64 (c.args.a *ℤ c.args.x +ℤ c.args.b *ℤ c.args.y +ℤ c.args.c *ℤ c.args.z) = fits_by_size w64 (c.args.a *ℤ c.args.x +ℤ c.args.b *ℤ c.args.y +ℤ c.args.c *ℤ c.args.z) (omega arith) in
    simp to_z-of_z f3

pub overflow_add-result-2 : goal.overflow_add-result-2
overflow_add-result-2 c =
    let ra = c.ranges.a in let rb = c.ranges.b in let rc = c.ranges.c in let rx = c.ranges.x in let ry = c.ranges.y in let rz = c.ranges.z in
    let s1 = size_product c.args.a c.args.x 137434759200 131070 c.requires.a_size c.requires.x_size in
    let s2 = size_product c.args.b c.args.y 137434759200 131070 c.requires.b_size c.requires.y_size in
    let s3 = size_product c.args.c c.args.z 137434759200 131070 c.requires.c_size c.requires.z_size in
    let s4 = size_sum (c.args.a *ℤ c.args.x) (c.args.b *ℤ c.args.y) in
    let s5 = size_sum (c.args.a *ℤ c.args.x +ℤ c.args.b *ℤ c.args.y) (c.args.c *ℤ c.args.z) in
    let f1 : FitsSigned w64 (c.args.a *ℤ c.args.x) = fits_by_size w64 (c.args.a *ℤ c.args.x) (omega arith) in
    let f2 : FitsSigned w64 (c.args.b *ℤ c.args.y) = fits_by_size w64 (c.args.b *ℤ c.args.y) (omega arith) in
    let f3 : FitsSigned w64 (c.args.c *ℤ c.args.z) = fits_by_size w64 (c.args.c *ℤ c.args.z) (omega arith) in
    let f4 : FitsSigned w64 (c.args.a *ℤ c.args.x +ℤ c.args.b *ℤ c.args.y) = fits_by_size w64 (c.args.a *ℤ c.args.x +ℤ c.args.b *ℤ c.args.y) (omega arith) in
    let f5 : FitsSigned w64 (c.args.a *ℤ c.args.x +ℤ c.args.b *ℤ c.args.y +ℤ c.args.c *ℤ c.args.z) = fits_by_size w64 (c.args.a *ℤ c.args.x +ℤ c.args.b *ℤ c.args.y +ℤ c.args.c *ℤ c.args.z) (omega arith) in
    simp to_z-of_z f5

pub returns-clause-value : goal.returns-clause-value
returns-clause-value c =
    let ra = c.ranges.a in let rb = c.ranges.b in let rc = c.ranges.c in let rx = c.ranges.x in let ry = c.ranges.y in let rz = c.ranges.z in
    let s1 = size_product c.args.a c.args.x 137434759200 131070 c.requires.a_size c.requires.x_size in
    let s2 = size_product c.args.b c.args.y 137434759200 131070 c.requires.b_size c.requires.y_size in
    let s3 = size_product c.args.c c.args.z 137434759200 131070 c.requires.c_size c.requires.z_size in
    let s4 = size_sum (c.args.a *ℤ c.args.x) (c.args.b *ℤ c.args.y) in
    let s5 = size_sum (c.args.a *ℤ c.args.x +ℤ c.args.b *ℤ c.args.y) (c.args.c *ℤ c.args.z) in
    let f1 : FitsSigned w64 (c.args.a *ℤ c.args.x) = fits_by_size w64 (c.args.a *ℤ c.args.x) (omega arith) in
    let f2 : FitsSigned w64 (c.args.b *ℤ c.args.y) = fits_by_size w64 (c.args.b *ℤ c.args.y) (omega arith) in
    let f3 : FitsSigned w64 (c.args.c *ℤ c.args.z) = fits_by_size w64 (c.args.c *ℤ c.args.z) (omega arith) in
    let f4 : FitsSigned w64 (c.args.a *ℤ c.args.x +ℤ c.args.b *ℤ c.args.y) = fits_by_size w64 (c.args.a *ℤ c.args.x +ℤ c.args.b *ℤ c.args.y) (omega arith) in
    let f5 : FitsSigned w64 (c.args.a *ℤ c.args.x +ℤ c.args.b *ℤ c.args.y +ℤ c.args.c *ℤ c.args.z) = fits_by_size w64 (c.args.a *ℤ c.args.x +ℤ c.args.b *ℤ c.args.y +ℤ c.args.c *ℤ c.args.z) (omega arith) in
    simp to_z-of_z

pub returns-clause-size : goal.returns-clause-size
returns-clause-size c =
    let ra = c.ranges.a in let rb = c.ranges.b in let rc = c.ranges.c in let rx = c.ranges.x in let ry = c.ranges.y in let rz = c.ranges.z in
    let s1 = size_product c.args.a c.args.x 137434759200 131070 c.requires.a_size c.requires.x_size in
    let s2 = size_product c.args.b c.args.y 137434759200 131070 c.requires.b_size c.requires.y_size in
    let s3 = size_product c.args.c c.args.z 137434759200 131070 c.requires.c_size c.requires.z_size in
    let s4 = size_sum (c.args.a *ℤ c.args.x) (c.args.b *ℤ c.args.y) in
    let s5 = size_sum (c.args.a *ℤ c.args.x +ℤ c.args.b *ℤ c.args.y) (c.args.c *ℤ c.args.z) in
    let f1 : FitsSigned w64 (c.args.a *ℤ c.args.x) = fits_by_size w64 (c.args.a *ℤ c.args.x) (omega arith) in
    let f2 : FitsSigned w64 (c.args.b *ℤ c.args.y) = fits_by_size w64 (c.args.b *ℤ c.args.y) (omega arith) in
    let f3 : FitsSigned w64 (c.args.c *ℤ c.args.z) = fits_by_size w64 (c.args.c *ℤ c.args.z) (omega arith) in
    let f4 : FitsSigned w64 (c.args.a *ℤ c.args.x +ℤ c.args.b *ℤ c.args.y) = fits_by_size w64 (c.args.a *ℤ c.args.x +ℤ c.args.b *ℤ c.args.y) (omega arith) in
    let f5 : FitsSigned w64 (c.args.a *ℤ c.args.x +ℤ c.args.b *ℤ c.args.y +ℤ c.args.c *ℤ c.args.z) = fits_by_size w64 (c.args.a *ℤ c.args.x +ℤ c.args.b *ℤ c.args.y +ℤ c.args.c *ℤ c.args.z) (omega arith) in
    simp to_z-of_z (omega arith)
