use Rattle.std.proofs.Common.{rules, ℤ, to_z-of_z, FitsSigned, ◌∙◌, sym, ap, ap₂}
use Rattle.plane_predicate.specs.Space.{Coordinates, meeting_by_cramers_rule, value}
use Rattle.plane_predicate.specs.Sides.{side_of, value_signed_by}
use Rattle.plane_predicate.proofs.Meetings.{value_signed}
use mir.Syntax.{w128}
use Rattle.plane_predicate.proofs.meeting.side.Goals as goal

pub returns : goal.returns
returns c =
    let at = meeting_by_cramers_rule c.args.p.now c.args.q.now c.args.r.now in
    let f1 : FitsSigned w128 c.at.inside.w = search rules in
    let f2 : FitsSigned w128 c.value_at.result = search rules in
    let e = simp to_z-of_z at c.side_by.ensures in
    let w = ap (λ (p : Coordinates). p.w) (c.at.view_is ∙ c.cramer_of-at.ensures) in
    let v = c.value_at.ensures.value ∙ ap (value c.args.s.now) c.cramer_of-at.ensures in
    e ∙ ap₂ (λ (x y : ℤ). side_of (value_signed_by x y)) w v ∙ ap side_of (sym (value_signed at.w c.args.s.now at))
