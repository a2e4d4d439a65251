use Rattle.std.proofs.Common.{rules, arith, w64, to_z-of_z, FitsSigned, ◌∙◌}
use Rattle.plane_predicate.specs.Space.{Coefficients}
use Rattle.plane_predicate.proofs.Meetings.{cramer_x, cramer_y, cramer_z, cramer_w, sum_size}
use Rattle.plane_predicate.proofs.lemmas.Opposites.{same_point}
use mir.Syntax.{w128}
use Rattle.plane_predicate.proofs.meeting.cramer_of.Goals as goal

pub invariant_of-result : goal.invariant_of-result
invariant_of-result c =
    let pa : FitsSigned w64 c.p.inside.a = search rules in
    let pb : FitsSigned w64 c.p.inside.b = search rules in
    let pc : FitsSigned w64 c.p.inside.c = search rules in
    let pd : FitsSigned w64 c.p.inside.d = search rules in
    let qa : FitsSigned w64 c.q.inside.a = search rules in
    let qb : FitsSigned w64 c.q.inside.b = search rules in
    let qc : FitsSigned w64 c.q.inside.c = search rules in
    let qd : FitsSigned w64 c.q.inside.d = search rules in
    let ra : FitsSigned w64 c.r.inside.a = search rules in
    let rb : FitsSigned w64 c.r.inside.b = search rules in
    let rc : FitsSigned w64 c.r.inside.c = search rules in
    let rd : FitsSigned w64 c.r.inside.d = search rules in
    let fa : FitsSigned w64 c.cross_of-first.result.a = search rules in
    let fb : FitsSigned w64 c.cross_of-first.result.b = search rules in
    let fc : FitsSigned w64 c.cross_of-first.result.c = search rules in
    let sa : FitsSigned w64 c.cross_of-second.result.a = search rules in
    let sb : FitsSigned w64 c.cross_of-second.result.b = search rules in
    let sc : FitsSigned w64 c.cross_of-second.result.c = search rules in
    let ta : FitsSigned w64 c.cross_of-third.result.a = search rules in
    let tb : FitsSigned w64 c.cross_of-third.result.b = search rules in
    let tc : FitsSigned w64 c.cross_of-third.result.c = search rules in
    let mx : FitsSigned w128 c.minors_dot.result = search rules in
    let my : FitsSigned w128 c.minors_dot-2.result = search rules in
    let mz : FitsSigned w128 c.minors_dot-3.result = search rules in
    let mw : FitsSigned w128 c.minors_dot-4.result = search rules in
    let sx = simp to_z-of_z at c.minors_dot.ensures.size in
    let sy = simp to_z-of_z at c.minors_dot-2.ensures.size in
    let sz = simp to_z-of_z at c.minors_dot-3.ensures.size in
    let sw = simp to_z-of_z at c.minors_dot-4.ensures.size in
    simp to_z-of_z
    (record {
      x_size = sum_size _ c.p.inside.d c.q.inside.d c.r.inside.d c.cross_of-first.result.a c.cross_of-second.result.a c.cross_of-third.result.a 1648059777000 sx (omega arith) (omega arith) (omega arith) (omega arith) (omega arith) (omega arith);
      y_size = sum_size _ c.p.inside.d c.q.inside.d c.r.inside.d c.cross_of-first.result.b c.cross_of-second.result.b c.cross_of-third.result.b 1648059777000 sy (omega arith) (omega arith) (omega arith) (omega arith) (omega arith) (omega arith);
      z_size = sum_size _ c.p.inside.d c.q.inside.d c.r.inside.d c.cross_of-first.result.c c.cross_of-second.result.c c.cross_of-third.result.c 1648059777000 sz (omega arith) (omega arith) (omega arith) (omega arith) (omega arith) (omega arith);
      w_size = sum_size _ c.p.inside.a c.p.inside.b c.p.inside.c c.cross_of-first.result.a c.cross_of-first.result.b c.cross_of-first.result.c 134152200 sw (omega arith) (omega arith) (omega arith) (omega arith) (omega arith) (omega arith);
    })

pub returns : goal.returns
returns c =
    let pa : FitsSigned w64 c.p.inside.a = search rules in
    let pb : FitsSigned w64 c.p.inside.b = search rules in
    let pc : FitsSigned w64 c.p.inside.c = search rules in
    let pd : FitsSigned w64 c.p.inside.d = search rules in
    let qa : FitsSigned w64 c.q.inside.a = search rules in
    let qb : FitsSigned w64 c.q.inside.b = search rules in
    let qc : FitsSigned w64 c.q.inside.c = search rules in
    let qd : FitsSigned w64 c.q.inside.d = search rules in
    let ra : FitsSigned w64 c.r.inside.a = search rules in
    let rb : FitsSigned w64 c.r.inside.b = search rules in
    let rc : FitsSigned w64 c.r.inside.c = search rules in
    let rd : FitsSigned w64 c.r.inside.d = search rules in
    let fa : FitsSigned w64 c.cross_of-first.result.a = search rules in
    let fb : FitsSigned w64 c.cross_of-first.result.b = search rules in
    let fc : FitsSigned w64 c.cross_of-first.result.c = search rules in
    let sa : FitsSigned w64 c.cross_of-second.result.a = search rules in
    let sb : FitsSigned w64 c.cross_of-second.result.b = search rules in
    let sc : FitsSigned w64 c.cross_of-second.result.c = search rules in
    let ta : FitsSigned w64 c.cross_of-third.result.a = search rules in
    let tb : FitsSigned w64 c.cross_of-third.result.b = search rules in
    let tc : FitsSigned w64 c.cross_of-third.result.c = search rules in
    let mx : FitsSigned w128 c.minors_dot.result = search rules in
    let my : FitsSigned w128 c.minors_dot-2.result = search rules in
    let mz : FitsSigned w128 c.minors_dot-3.result = search rules in
    let mw : FitsSigned w128 c.minors_dot-4.result = search rules in
    let vx = simp to_z-of_z at c.minors_dot.ensures.value in
    let vy = simp to_z-of_z at c.minors_dot-2.ensures.value in
    let vz = simp to_z-of_z at c.minors_dot-3.ensures.value in
    let vw = simp to_z-of_z at c.minors_dot-4.ensures.value in
    let first_a = rw (← c.q.view_is, ← c.r.view_is) at c.cross_of-first.ensures.a in
    let first_b = rw (← c.q.view_is, ← c.r.view_is) at c.cross_of-first.ensures.b in
    let first_c = rw (← c.q.view_is, ← c.r.view_is) at c.cross_of-first.ensures.c in
    let second_a = rw (← c.r.view_is, ← c.p.view_is) at c.cross_of-second.ensures.a in
    let second_b = rw (← c.r.view_is, ← c.p.view_is) at c.cross_of-second.ensures.b in
    let second_c = rw (← c.r.view_is, ← c.p.view_is) at c.cross_of-second.ensures.c in
    let third_a = rw (← c.p.view_is, ← c.q.view_is) at c.cross_of-third.ensures.a in
    let third_b = rw (← c.p.view_is, ← c.q.view_is) at c.cross_of-third.ensures.b in
    let third_c = rw (← c.p.view_is, ← c.q.view_is) at c.cross_of-third.ensures.c in
    let P : Coefficients = record { a = c.p.inside.a; b = c.p.inside.b; c = c.p.inside.c; d = c.p.inside.d } in
    let Q : Coefficients = record { a = c.q.inside.a; b = c.q.inside.b; c = c.q.inside.c; d = c.q.inside.d } in
    let R : Coefficients = record { a = c.r.inside.a; b = c.r.inside.b; c = c.r.inside.c; d = c.r.inside.d } in
    rw (← c.p.view_is, ← c.q.view_is, ← c.r.view_is)
    (same_point _ _ _ _ _ _ _ _
    (to_z-of_z mx ∙ vx ∙ cramer_x P Q R c.cross_of-first.result.a c.cross_of-second.result.a c.cross_of-third.result.a first_a second_a third_a)
    (to_z-of_z my ∙ vy ∙ cramer_y P Q R c.cross_of-first.result.b c.cross_of-second.result.b c.cross_of-third.result.b first_b second_b third_b)
    (to_z-of_z mz ∙ vz ∙ cramer_z P Q R c.cross_of-first.result.c c.cross_of-second.result.c c.cross_of-third.result.c first_c second_c third_c)
    (to_z-of_z mw ∙ vw ∙ cramer_w P Q R c.cross_of-first.result.a c.cross_of-first.result.b c.cross_of-first.result.c first_a first_b first_c))
