use Rattle.std.proofs.Common.{◌≡◌, rules, ◌+ℤ◌, ◌*ℤ◌, ap₂, arith, to_z-of_z, FitsSigned}
use Rattle.plane_predicate.proofs.lemmas.Sizes.{fits_by_size, size_sum}
use mir.Syntax.{w128}
use Rattle.primitives.proofs.facing_out.directions_dot.Goals as goal

pub overflow_add-result-2 : goal.overflow_add-result-2
overflow_add-result-2 c =
    let a = c.ranges.a in let b = c.ranges.b in let d = c.ranges.c in let x = c.ranges.x in let y = c.ranges.y in let z = c.ranges.z in
    let p = c.product.result in let q = c.product-2.result in let r = c.product-3.result in
    let f1 : FitsSigned w128 p = search rules in
    let f2 : FitsSigned w128 q = search rules in
    let f3 : FitsSigned w128 r = search rules in
    let f4 : FitsSigned w128 (p +ℤ q) = fits_by_size w128 (p +ℤ q) (omega (arith, size_sum p q, c.product.ensures.size, c.product-2.ensures.size)) in
    simp to_z-of_z (fits_by_size w128 (p +ℤ q +ℤ r) (omega (arith, size_sum p q, size_sum (p +ℤ q) r, c.product.ensures.size, c.product-2.ensures.size, c.product-3.ensures.size)))

pub returns : goal.returns
returns c =
    let a = c.ranges.a in let b = c.ranges.b in let d = c.ranges.c in let x = c.ranges.x in let y = c.ranges.y in let z = c.ranges.z in
    let p = c.product.result in let q = c.product-2.result in let r = c.product-3.result in
    let f1 : FitsSigned w128 p = search rules in
    let f2 : FitsSigned w128 q = search rules in
    let f3 : FitsSigned w128 r = search rules in
    let f4 : FitsSigned w128 (p +ℤ q) = fits_by_size w128 (p +ℤ q) (omega (arith, size_sum p q, c.product.ensures.size, c.product-2.ensures.size)) in
    let f5 : FitsSigned w128 (p +ℤ q +ℤ r) = fits_by_size w128 (p +ℤ q +ℤ r) (omega (arith, size_sum p q, size_sum (p +ℤ q) r, c.product.ensures.size, c.product-2.ensures.size, c.product-3.ensures.size)) in
    let e1 : p ≡ c.args.a *ℤ c.args.x = simp to_z-of_z at c.product.ensures.value in
    let e2 : q ≡ c.args.b *ℤ c.args.y = simp to_z-of_z at c.product-2.ensures.value in
    let e3 : r ≡ c.args.c *ℤ c.args.z = simp to_z-of_z at c.product-3.ensures.value in
    simp to_z-of_z (ap₂ ◌+ℤ◌ (ap₂ ◌+ℤ◌ e1 e2) e3)
