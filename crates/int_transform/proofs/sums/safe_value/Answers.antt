use Rattle.std.proofs.Common.{rules, ◌≡◌, ◌≤◌, arith, get_or, pos, unsigned_abs, to_z-of_z, FitsSigned, w64}
use mir.Syntax.{w128}
use Rattle.plane_predicate.specs.Space.{point_at}
use Rattle.plane_predicate.proofs.lemmas.Sizes.{fits_by_size}
use Rattle.int_transform.specs.Maps.{row_at}
use Rattle.int_transform.proofs.lemmas.Ranges.{coordinate_sum}
use Rattle.int_transform.proofs.sums.safe_value.Goals as goal

pub returns-clause-some : goal.returns-clause-some
returns-clause-some c =
    let fa : FitsSigned w64 c.args.row.now.a = search rules in
    let fb : FitsSigned w64 c.args.row.now.b = search rules in
    let fc : FitsSigned w64 c.args.row.now.c = search rules in
    let fd : FitsSigned w64 c.args.row.now.d = search rules in
    let fx : FitsSigned w64 (get_or c.args.point 0 (pos 0)) = search rules in
    let fy : FitsSigned w64 (get_or c.args.point 1 (pos 0)) = search rules in
    let fz : FitsSigned w64 (get_or c.args.point 2 (pos 0)) = search rules in
    let f1 : FitsSigned w128 c.product.result = search rules in
    let f2 : FitsSigned w128 c.product-2.result = search rules in
    let f3 : FitsSigned w128 c.product-3.result = search rules in
    let f4 : FitsSigned w128 c.from.result = search rules in
    let f5 : FitsSigned w128 c.sum_of-sum.result = search rules in
    let p = simp to_z-of_z at c.product.ensures.value in
    let q = simp to_z-of_z at c.product-2.ensures.value in
    let r = simp to_z-of_z at c.product-3.ensures.value in
    let s = simp to_z-of_z at c.from.ensures in
    let t = simp to_z-of_z at c.sum_of-sum.ensures in
    let size = simp to_z-of_z at c.unsigned_abs.ensures.value in
    let small : unsigned_abs c.sum_of-sum.result ≤ 9007199254740991 = omega (arith, size) in
    let f6 : FitsSigned w64 c.sum_of-sum.result = fits_by_size w64 c.sum_of-sum.result (omega arith) in
    let m = c.args.row.now in
    let value : c.sum_of-sum.result ≡ row_at m (point_at c.args.point) = coordinate_sum m.a m.b m.c m.d (get_or c.args.point 0 (pos 0)) (get_or c.args.point 1 (pos 0)) (get_or c.args.point 2 (pos 0)) c.product.result c.product-2.result c.product-3.result c.from.result c.sum_of-sum.result t p q r s in
    simp to_z-of_z (value, small)
