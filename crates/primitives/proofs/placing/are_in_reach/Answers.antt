use Rattle.std.proofs.Common.{ℤ, List, [], arith}
use Rattle.plane_predicate.specs.Space.{point_at, IsInReach}
use Rattle.primitives.proofs.lemmas.Lists.{all_done, all_next}
use Rattle.primitives.proofs.placing.are_in_reach.Goals as goal

pub loop-point-preserved : goal.loop-point-preserved
loop-point-preserved c =
    all_next (λ (p : List ℤ). IsInReach (point_at p)) c.args.points.now c.loop-point.point-index [] (omega arith) c.loop-point.invariant c.if-not-is_in_reach.ensures.all

pub returns-clause-all : goal.returns-clause-all
returns-clause-all c =
    all_done (λ (p : List ℤ). IsInReach (point_at p)) c.args.points.now c.loop-point.point-index (omega arith) c.loop-point.invariant
