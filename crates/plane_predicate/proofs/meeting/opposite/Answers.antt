use Rattle.std.proofs.Common.{neg_ℤ, arith, w64, subst, sym}
use Rattle.plane_predicate.specs.Space.{Coefficients, IsPlane, HaveSamePoints}
use Rattle.plane_predicate.proofs.lemmas.SamePlanes.{opposite_points}
use Rattle.plane_predicate.proofs.lemmas.Opposites.{negated, same_plane, opposite_is_plane}
use Rattle.plane_predicate.proofs.meeting.opposite.Goals as goal

pub invariant_of-result : goal.invariant_of-result
invariant_of-result c =
    let m = c.p.inside in
    subst IsPlane
    (sym (same_plane _ _ _ _ (neg_ℤ m.a) (neg_ℤ m.b) (neg_ℤ m.c) (neg_ℤ m.d) (negated w64 m.a (omega arith)) (negated w64 m.b (omega arith)) (negated w64 m.c (omega arith)) (negated w64 m.d (omega arith))))
    (opposite_is_plane (record { a = m.a; b = m.b; c = m.c; d = m.d }) c.p.invariant)

pub returns-clause-numbers : goal.returns-clause-numbers
returns-clause-numbers c =
    let m = c.p.inside in
    rw (← c.p.view_is)
    (same_plane _ _ _ _ (neg_ℤ m.a) (neg_ℤ m.b) (neg_ℤ m.c) (neg_ℤ m.d) (negated w64 m.a (omega arith)) (negated w64 m.b (omega arith)) (negated w64 m.c (omega arith)) (negated w64 m.d (omega arith)))

pub returns-clause-points : goal.returns-clause-points
returns-clause-points c =
    let m = c.p.inside in
    rw (← c.p.view_is)
    (subst (λ (k : Coefficients). HaveSamePoints k (record { a = m.a; b = m.b; c = m.c; d = m.d }))
    (sym (same_plane _ _ _ _ (neg_ℤ m.a) (neg_ℤ m.b) (neg_ℤ m.c) (neg_ℤ m.d) (negated w64 m.a (omega arith)) (negated w64 m.b (omega arith)) (negated w64 m.c (omega arith)) (negated w64 m.d (omega arith))))
    (opposite_points (record { a = m.a; b = m.b; c = m.c; d = m.d })))
