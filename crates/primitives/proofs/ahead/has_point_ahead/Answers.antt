use Rattle.std.proofs.Common.{List, ℤ, [], pos, ◌≤ℤ◌, arith}
use Rattle.plane_predicate.specs.Space.{point_at, value}
use Rattle.primitives.proofs.lemmas.Lists.{all_done, all_next}
use Rattle.primitives.proofs.ahead.has_point_ahead.Goals as goal

pub loop-point-preserved : goal.loop-point-preserved
loop-point-preserved c =
    all_next (λ (p : List ℤ). value c.args.plane.now (point_at p) ≤ℤ pos 0) c.args.points.now c.loop-point.point-index [] (omega arith) c.loop-point.invariant c.if-is_ahead.ensures.none

pub returns : goal.returns
returns c =
    all_done (λ (p : List ℤ). value c.args.plane.now (point_at p) ≤ℤ pos 0) c.args.points.now c.loop-point.point-index (omega arith) c.loop-point.invariant
