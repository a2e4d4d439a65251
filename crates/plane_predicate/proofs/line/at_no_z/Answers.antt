use Rattle.std.proofs.Common.{rules, w64, to_z-of_z, FitsSigned}
use Rattle.plane_predicate.specs.Space.{Coefficients}
use Rattle.plane_predicate.proofs.Spots.{over_z}
use Rattle.plane_predicate.proofs.line.at_no_z.Goals as goal

pub returns : goal.returns
returns c =
    let fpa : FitsSigned w64 c.p.inside.a = search rules in
    let fpb : FitsSigned w64 c.p.inside.b = search rules in
    let fpc : FitsSigned w64 c.p.inside.c = search rules in
    let fpd : FitsSigned w64 c.p.inside.d = search rules in
    let fma : FitsSigned w64 c.m.inside.a = search rules in
    let fmb : FitsSigned w64 c.m.inside.b = search rules in
    let fmc : FitsSigned w64 c.m.inside.c = search rules in
    let fmd : FitsSigned w64 c.m.inside.d = search rules in
    let f1 : FitsSigned w64 c.offset_part-x.result = search rules in
    let f2 : FitsSigned w64 c.offset_part-y.result = search rules in
    let f3 : FitsSigned w64 c.args.w = search rules in
    let v1 = simp to_z-of_z at c.offset_part-x.ensures.value in
    let v2 = simp to_z-of_z at c.offset_part-y.ensures.value in
    let e = simp to_z-of_z at c.spot_of.ensures in
    let w = rw (← c.p.view_is, ← c.m.view_is) at c.requires.w in
    let P : Coefficients = record { a = c.p.inside.a; b = c.p.inside.b; c = c.p.inside.c; d = c.p.inside.d } in
    let M : Coefficients = record { a = c.m.inside.a; b = c.m.inside.b; c = c.m.inside.c; d = c.m.inside.d } in
    rw (← c.p.view_is, ← c.m.view_is) (over_z P M _ _ _ _ v1 v2 w c.requires.apart e)
