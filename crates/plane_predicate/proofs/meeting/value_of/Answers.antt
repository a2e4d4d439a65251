use Rattle.std.proofs.Common.{rules, arith, to_z-of_z, FitsSigned, ◌*◌, ap₂, ◌∙◌, ◌-ℤ◌, mul-le-mul}
use Rattle.plane_predicate.proofs.lemmas.Sizes.{three_products}
use mir.Syntax.{w128}
use Rattle.plane_predicate.proofs.meeting.value_of.Goals as goal

pub dot-high-requires : goal.dot-high-requires
dot-high-requires c =
    let a = c.ranges.a in let b = c.ranges.b in let d = c.ranges.c in
    let x : FitsSigned w128 c.at.inside.x = search rules in
    let y : FitsSigned w128 c.at.inside.y = search rules in
    let z : FitsSigned w128 c.at.inside.z = search rules in
    simp to_z-of_z
    (omega (arith, three_products c.args.a c.args.b c.args.c c.at.inside.x c.at.inside.y c.at.inside.z 134152200 (6 * (134152200 * (134152200 * 1648059777000))) c.requires.a_size c.requires.b_size c.requires.c_size c.at.invariant.x_size c.at.invariant.y_size c.at.invariant.z_size))

pub times-low-requires : goal.times-low-requires
times-low-requires c =
    let d = c.ranges.d in
    let w : FitsSigned w128 c.at.inside.w = search rules in
    simp to_z-of_z (omega (arith, mul-le-mul c.requires.d_size c.at.invariant.w_size))

pub minus-requires : goal.minus-requires
minus-requires c =
    let a = c.ranges.a in let b = c.ranges.b in let e = c.ranges.c in let d = c.ranges.d in
    let x : FitsSigned w128 c.at.inside.x = search rules in
    let y : FitsSigned w128 c.at.inside.y = search rules in
    let z : FitsSigned w128 c.at.inside.z = search rules in
    let w : FitsSigned w128 c.at.inside.w = search rules in
    let f1 : FitsSigned w128 c.dot-high.result = search rules in
    let f2 : FitsSigned w128 c.times-low.result = search rules in
    let s1 = simp to_z-of_z at c.dot-high.ensures.size in
    let s2 = simp to_z-of_z at c.times-low.ensures.size in
    simp to_z-of_z
    (omega (arith, mul-le-mul c.requires.d_size c.at.invariant.w_size, three_products c.args.a c.args.b c.args.c c.at.inside.x c.at.inside.y c.at.inside.z 134152200 (6 * (134152200 * (134152200 * 1648059777000))) c.requires.a_size c.requires.b_size c.requires.c_size c.at.invariant.x_size c.at.invariant.y_size c.at.invariant.z_size))

pub returns-clause-value : goal.returns-clause-value
returns-clause-value c =
    let a = c.ranges.a in let b = c.ranges.b in let e = c.ranges.c in let d = c.ranges.d in
    let x : FitsSigned w128 c.at.inside.x = search rules in
    let y : FitsSigned w128 c.at.inside.y = search rules in
    let z : FitsSigned w128 c.at.inside.z = search rules in
    let w : FitsSigned w128 c.at.inside.w = search rules in
    let f1 : FitsSigned w128 c.dot-high.result = search rules in
    let f2 : FitsSigned w128 c.times-low.result = search rules in
    let f3 : FitsSigned w128 c.minus.result = search rules in
    let v1 = simp to_z-of_z at c.dot-high.ensures.value in
    let v2 = simp to_z-of_z at c.times-low.ensures.value in
    let v3 = simp to_z-of_z at c.minus.ensures.value in
    rw (← c.at.view_is) (to_z-of_z f3 ∙ v3 ∙ ap₂ ◌-ℤ◌ v1 v2)

pub returns-clause-size : goal.returns-clause-size
returns-clause-size c =
    let a = c.ranges.a in let b = c.ranges.b in let e = c.ranges.c in let d = c.ranges.d in
    let x : FitsSigned w128 c.at.inside.x = search rules in
    let y : FitsSigned w128 c.at.inside.y = search rules in
    let z : FitsSigned w128 c.at.inside.z = search rules in
    let w : FitsSigned w128 c.at.inside.w = search rules in
    let f1 : FitsSigned w128 c.dot-high.result = search rules in
    let f2 : FitsSigned w128 c.times-low.result = search rules in
    let f3 : FitsSigned w128 c.minus.result = search rules in
    let s1 = simp to_z-of_z at c.dot-high.ensures.size in
    let s2 = simp to_z-of_z at c.times-low.ensures.size in
    let s3 = simp to_z-of_z at c.minus.ensures.size in
    simp to_z-of_z
    (omega (arith, mul-le-mul c.requires.d_size c.at.invariant.w_size, three_products c.args.a c.args.b c.args.c c.at.inside.x c.at.inside.y c.at.inside.z 134152200 (6 * (134152200 * (134152200 * 1648059777000))) c.requires.a_size c.requires.b_size c.requires.c_size c.at.invariant.x_size c.at.invariant.y_size c.at.invariant.z_size))
