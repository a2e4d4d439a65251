use Rattle.std.proofs.Common.{rules, ◌≡◌, ◌*◌, ◌<◌, ◌≤◌, ◌^◌, ℕ, unsigned_abs, arith, to_z-of_z, FitsSigned, subst, sym}
use mir.Syntax.{w128}
use Rattle.plane_predicate.proofs.lemmas.Sizes.{three_products, same_products}
use Rattle.plane_predicate.proofs.arithmetic.minors_dot.Goals as goal

pub dot-requires : goal.dot-requires
dot-requires c =
    let r1 = c.ranges.a in let r2 = c.ranges.b in let r3 = c.ranges.c in let r4 = c.ranges.x in let r5 = c.ranges.y in let r6 = c.ranges.z in
    let f1 : FitsSigned w128 c.from.result = search rules in
    let f2 : FitsSigned w128 c.from-2.result = search rules in
    let f3 : FitsSigned w128 c.from-3.result = search rules in
    let f4 : FitsSigned w128 c.from-4.result = search rules in
    let f5 : FitsSigned w128 c.from-5.result = search rules in
    let f6 : FitsSigned w128 c.from-6.result = search rules in
    let e1 : c.from.result ≡ c.args.a = simp to_z-of_z at c.from.ensures in
    let e2 : c.from-2.result ≡ c.args.b = simp to_z-of_z at c.from-2.ensures in
    let e3 : c.from-3.result ≡ c.args.c = simp to_z-of_z at c.from-3.ensures in
    let e4 : c.from-4.result ≡ c.args.x = simp to_z-of_z at c.from-4.ensures in
    let e5 : c.from-5.result ≡ c.args.y = simp to_z-of_z at c.from-5.ensures in
    let e6 : c.from-6.result ≡ c.args.z = simp to_z-of_z at c.from-6.ensures in
    simp to_z-of_z
    (subst (λ (n : ℕ). n < 2 ^ 127) (sym (same_products c.from.result c.from-2.result c.from-3.result c.from-4.result c.from-5.result c.from-6.result c.args.a c.args.b c.args.c c.args.x c.args.y c.args.z e1 e2 e3 e4 e5 e6))
    (omega (arith, three_products c.args.a c.args.b c.args.c c.args.x c.args.y c.args.z 1648059777000 (2 * (134152200 * 134152200)) c.requires.a_size c.requires.b_size c.requires.c_size c.requires.x_size c.requires.y_size c.requires.z_size)))

pub returns-clause-size : goal.returns-clause-size
returns-clause-size c =
    let r1 = c.ranges.a in let r2 = c.ranges.b in let r3 = c.ranges.c in let r4 = c.ranges.x in let r5 = c.ranges.y in let r6 = c.ranges.z in
    let f1 : FitsSigned w128 c.from.result = search rules in
    let f2 : FitsSigned w128 c.from-2.result = search rules in
    let f3 : FitsSigned w128 c.from-3.result = search rules in
    let f4 : FitsSigned w128 c.from-4.result = search rules in
    let f5 : FitsSigned w128 c.from-5.result = search rules in
    let f6 : FitsSigned w128 c.from-6.result = search rules in
    let f7 : FitsSigned w128 c.dot.result = search rules in
    let e1 : c.from.result ≡ c.args.a = simp to_z-of_z at c.from.ensures in
    let e2 : c.from-2.result ≡ c.args.b = simp to_z-of_z at c.from-2.ensures in
    let e3 : c.from-3.result ≡ c.args.c = simp to_z-of_z at c.from-3.ensures in
    let e4 : c.from-4.result ≡ c.args.x = simp to_z-of_z at c.from-4.ensures in
    let e5 : c.from-5.result ≡ c.args.y = simp to_z-of_z at c.from-5.ensures in
    let e6 : c.from-6.result ≡ c.args.z = simp to_z-of_z at c.from-6.ensures in
    let s = simp to_z-of_z at c.dot.ensures.size in
    simp to_z-of_z
    (subst (λ (n : ℕ). unsigned_abs c.dot.result ≤ n) (same_products c.from.result c.from-2.result c.from-3.result c.from-4.result c.from-5.result c.from-6.result c.args.a c.args.b c.args.c c.args.x c.args.y c.args.z e1 e2 e3 e4 e5 e6) s)
