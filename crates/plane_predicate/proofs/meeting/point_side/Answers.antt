use Rattle.std.proofs.Common.{rules, to_z-of_z, FitsSigned, ◌∙◌, ap}
use Rattle.plane_predicate.specs.Space.{value}
use Rattle.plane_predicate.specs.Sides.{side_of}
use Rattle.plane_predicate.proofs.Meetings.{turned_above}
use mir.Syntax.{w128}
use Rattle.plane_predicate.proofs.meeting.point_side.Goals as goal

pub returns : goal.returns
returns c =
    let fx : FitsSigned w128 c.point.inside.x = search rules in
    let fy : FitsSigned w128 c.point.inside.y = search rules in
    let fz : FitsSigned w128 c.point.inside.z = search rules in
    let fw : FitsSigned w128 c.point.inside.w = search rules in
    let fv : FitsSigned w128 c.value_at.result = search rules in
    let e = simp to_z-of_z at c.side_by.ensures in
    let v = simp to_z-of_z at c.value_at.ensures.value in
    e ∙ ap side_of (turned_above c.point.inside.w c.value_at.result c.point.invariant.weight ∙ v ∙ ap (value c.args.m.now) c.point.view_is)
