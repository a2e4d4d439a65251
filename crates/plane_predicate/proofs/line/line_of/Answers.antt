use Rattle.std.proofs.Common.{rules, w64, to_z-of_z, FitsSigned}
use Rattle.plane_predicate.proofs.line.line_of.Goals as goal

pub returns : goal.returns
returns c =
    let fpa : FitsSigned w64 c.p.inside.a = search rules in
    let fpb : FitsSigned w64 c.p.inside.b = search rules in
    let fpc : FitsSigned w64 c.p.inside.c = search rules in
    let fpd : FitsSigned w64 c.p.inside.d = search rules in
    let fma : FitsSigned w64 c.m.inside.a = search rules in
    let fmb : FitsSigned w64 c.m.inside.b = search rules in
    let fmc : FitsSigned w64 c.m.inside.c = search rules in
    let fmd : FitsSigned w64 c.m.inside.d = search rules in
    let fa : FitsSigned w64 c.cross_part-a.result = search rules in
    let fb : FitsSigned w64 c.cross_part-b.result = search rules in
    let fc : FitsSigned w64 c.cross_part-c.result = search rules in
    let gx : FitsSigned w64 c.point.inside.x = search rules in
    let gy : FitsSigned w64 c.point.inside.y = search rules in
    let gz : FitsSigned w64 c.point.inside.z = search rules in
    let gw : FitsSigned w64 c.point.inside.w = search rules in
    let va = simp to_z-of_z at c.cross_part-a.ensures.value in
    let vb = simp to_z-of_z at c.cross_part-b.ensures.value in
    let vc = simp to_z-of_z at c.cross_part-c.ensures.value in
    let on = rw (← c.p.view_is, ← c.m.view_is, ← c.point.view_is) at c.in_ok-point.ensures in
    rw (← c.p.view_is, ← c.m.view_is) (simp to_z-of_z (record { a = va; b = vb; c = vc; on = on }))
