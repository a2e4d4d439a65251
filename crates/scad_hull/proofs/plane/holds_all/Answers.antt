use Rattle.std.proofs.Common.{◌≡◌, pos, ℤ, List, [], arith}
use Rattle.plane_predicate.specs.Space.{point_at, value}
use Rattle.primitives.proofs.lemmas.Lists.{all_done, all_next}
use Rattle.scad_hull.proofs.plane.holds_all.Goals as goal

pub loop-point-preserved : goal.loop-point-preserved
loop-point-preserved c =
    all_next (λ (p : List ℤ). value c.args.plane.now (point_at p) ≡ pos 0) c.args.points.now c.loop-point.point-index [] (omega arith) c.loop-point.invariant c.if-not-goes_through.ensures.on

pub returns-clause-all : goal.returns-clause-all
returns-clause-all c = all_done (λ (p : List ℤ). value c.args.plane.now (point_at p) ≡ pos 0) c.args.points.now c.loop-point.point-index (omega arith) c.loop-point.invariant
