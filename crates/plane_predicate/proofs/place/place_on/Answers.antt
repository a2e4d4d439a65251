use Rattle.std.proofs.Common.{rules, arith, w64, to_z-of_z, FitsSigned, mul-le-mul, ap₂, ◌∙◌, ◌-ℤ◌}
use Rattle.plane_predicate.proofs.lemmas.Sizes.{three_products}
use Rattle.plane_predicate.proofs.place.place_on.Goals as goal

pub dot-high-requires : goal.dot-high-requires
dot-high-requires c =
    let ma : FitsSigned w64 c.m.inside.a = search rules in
    let mb : FitsSigned w64 c.m.inside.b = search rules in
    let mc : FitsSigned w64 c.m.inside.c = search rules in
    let md : FitsSigned w64 c.m.inside.d = search rules in
    let la : FitsSigned w64 c.line.inside.a = search rules in
    let lb : FitsSigned w64 c.line.inside.b = search rules in
    let lc : FitsSigned w64 c.line.inside.c = search rules in
    let lx : FitsSigned w64 c.line.inside.x = search rules in
    let ly : FitsSigned w64 c.line.inside.y = search rules in
    let lz : FitsSigned w64 c.line.inside.z = search rules in
    let lw : FitsSigned w64 c.line.inside.w = search rules in
    let ha = rw (← c.m.view_is) at c.requires.a_size in
    let hb = rw (← c.m.view_is) at c.requires.b_size in
    let hc = rw (← c.m.view_is) at c.requires.c_size in
    let hd = rw (← c.m.view_is) at c.requires.d_size in
    simp to_z-of_z (omega (arith, three_products c.m.inside.a c.m.inside.b c.m.inside.c c.line.inside.x c.line.inside.y c.line.inside.z 100000 20000000000000 ha hb hc c.line.invariant.point_size.x_size c.line.invariant.point_size.y_size c.line.invariant.point_size.z_size))

pub minus-requires : goal.minus-requires
minus-requires c =
    let ma : FitsSigned w64 c.m.inside.a = search rules in
    let mb : FitsSigned w64 c.m.inside.b = search rules in
    let mc : FitsSigned w64 c.m.inside.c = search rules in
    let md : FitsSigned w64 c.m.inside.d = search rules in
    let la : FitsSigned w64 c.line.inside.a = search rules in
    let lb : FitsSigned w64 c.line.inside.b = search rules in
    let lc : FitsSigned w64 c.line.inside.c = search rules in
    let lx : FitsSigned w64 c.line.inside.x = search rules in
    let ly : FitsSigned w64 c.line.inside.y = search rules in
    let lz : FitsSigned w64 c.line.inside.z = search rules in
    let lw : FitsSigned w64 c.line.inside.w = search rules in
    let ha = rw (← c.m.view_is) at c.requires.a_size in
    let hb = rw (← c.m.view_is) at c.requires.b_size in
    let hc = rw (← c.m.view_is) at c.requires.c_size in
    let hd = rw (← c.m.view_is) at c.requires.d_size in
    let f1 : FitsSigned w64 c.dot-high.result = search rules in
    let f2 : FitsSigned w64 c.times-low.result = search rules in
    let s1 = simp to_z-of_z at c.dot-high.ensures.size in
    let s2 = simp to_z-of_z at c.times-low.ensures.size in
    simp to_z-of_z (omega (arith, three_products c.m.inside.a c.m.inside.b c.m.inside.c c.line.inside.x c.line.inside.y c.line.inside.z 100000 20000000000000 ha hb hc c.line.invariant.point_size.x_size c.line.invariant.point_size.y_size c.line.invariant.point_size.z_size, mul-le-mul hd c.line.invariant.point_size.w_size))

pub dot-requires : goal.dot-requires
dot-requires c =
    let ma : FitsSigned w64 c.m.inside.a = search rules in
    let mb : FitsSigned w64 c.m.inside.b = search rules in
    let mc : FitsSigned w64 c.m.inside.c = search rules in
    let md : FitsSigned w64 c.m.inside.d = search rules in
    let la : FitsSigned w64 c.line.inside.a = search rules in
    let lb : FitsSigned w64 c.line.inside.b = search rules in
    let lc : FitsSigned w64 c.line.inside.c = search rules in
    let lx : FitsSigned w64 c.line.inside.x = search rules in
    let ly : FitsSigned w64 c.line.inside.y = search rules in
    let lz : FitsSigned w64 c.line.inside.z = search rules in
    let lw : FitsSigned w64 c.line.inside.w = search rules in
    let ha = rw (← c.m.view_is) at c.requires.a_size in
    let hb = rw (← c.m.view_is) at c.requires.b_size in
    let hc = rw (← c.m.view_is) at c.requires.c_size in
    let hd = rw (← c.m.view_is) at c.requires.d_size in
    simp to_z-of_z (omega (arith, three_products c.m.inside.a c.m.inside.b c.m.inside.c c.line.inside.a c.line.inside.b c.line.inside.c 100000 20000000000 ha hb hc c.line.invariant.a_size c.line.invariant.b_size c.line.invariant.c_size))

pub returns : goal.returns
returns c =
    let ma : FitsSigned w64 c.m.inside.a = search rules in
    let mb : FitsSigned w64 c.m.inside.b = search rules in
    let mc : FitsSigned w64 c.m.inside.c = search rules in
    let md : FitsSigned w64 c.m.inside.d = search rules in
    let la : FitsSigned w64 c.line.inside.a = search rules in
    let lb : FitsSigned w64 c.line.inside.b = search rules in
    let lc : FitsSigned w64 c.line.inside.c = search rules in
    let lx : FitsSigned w64 c.line.inside.x = search rules in
    let ly : FitsSigned w64 c.line.inside.y = search rules in
    let lz : FitsSigned w64 c.line.inside.z = search rules in
    let lw : FitsSigned w64 c.line.inside.w = search rules in
    let f1 : FitsSigned w64 c.dot-high.result = search rules in
    let f2 : FitsSigned w64 c.times-low.result = search rules in
    let f3 : FitsSigned w64 c.minus.result = search rules in
    let f4 : FitsSigned w64 c.dot.result = search rules in
    let v1 = simp to_z-of_z at c.dot-high.ensures.value in
    let v2 = simp to_z-of_z at c.times-low.ensures.value in
    let v3 = simp to_z-of_z at c.minus.ensures.value in
    let v4 = simp to_z-of_z at c.dot.ensures.value in
    rw (← c.m.view_is, ← c.line.view_is) (record { at = to_z-of_z f3 ∙ v3 ∙ ap₂ ◌-ℤ◌ v1 v2; along = to_z-of_z f4 ∙ v4 })
