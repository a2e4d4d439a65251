use Rattle.std.proofs.lemmas.Int.{ints}
use Rattle.std.proofs.Common.{rules, FitsSigned, neg_ℤ, arith, to_z-of_z, ◌∙◌, sym}
use Rattle.plane_predicate.specs.Space.{Coordinates}
use Rattle.plane_predicate.proofs.Meetings.{signed_negative}
use Rattle.plane_predicate.proofs.lemmas.Opposites.{negated, same_point}
use mir.Syntax.{w128}
use Rattle.plane_predicate.proofs.meeting.point_of.Goals as goal

pub returns-then-at-lt0 : goal.returns-then-at-lt0
returns-then-at-lt0 c =
    let m : Coordinates = record { x = c.at.inside.x; y = c.at.inside.y; z = c.at.inside.z; w = c.at.inside.w } in
    let f : FitsSigned w128 c.at.inside.w = search rules in
    rw (← c.at.view_is)
    (same_point _ _ _ _ (neg_ℤ m.x) (neg_ℤ m.y) (neg_ℤ m.z) (neg_ℤ m.w) (negated w128 m.x (omega arith)) (negated w128 m.y (omega arith)) (negated w128 m.z (omega arith)) (negated w128 m.w (omega arith))
    ∙ sym (signed_negative m.w m (omega (arith, ints, simp to_z-of_z at c.if-at-lt0.true))))
