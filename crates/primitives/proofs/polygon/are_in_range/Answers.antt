use Rattle.std.proofs.Common.{arith, []}
use Rattle.primitives.proofs.lemmas.Lists.{all_done, all_next}
use Rattle.primitives.specs.Polygons.{IsFlatPointInRange}
use Rattle.primitives.proofs.polygon.are_in_range.Goals as goal

pub loop-point-preserved : goal.loop-point-preserved
loop-point-preserved c = all_next IsFlatPointInRange c.args.points.now c.loop-point.point-index [] (omega arith) c.loop-point.invariant c.if-not-is_in_range.ensures.all

pub returns-clause-all : goal.returns-clause-all
returns-clause-all c = all_done IsFlatPointInRange c.args.points.now c.loop-point.point-index (omega arith) c.loop-point.invariant
