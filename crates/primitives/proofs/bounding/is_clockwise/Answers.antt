use Rattle.std.proofs.Common.{arith}
use Rattle.primitives.proofs.lemmas.Lists.{all_done, all_next}
use Rattle.primitives.specs.DirectedEdges.{missing_edge, HasNoneLeft}
use Rattle.primitives.proofs.bounding.is_clockwise.Goals as goal

pub loop-way-preserved : goal.loop-way-preserved
loop-way-preserved c =
    all_next (HasNoneLeft c.args.points.now c.args.face.now c.args.plane.now) c.args.ways.now c.loop-way.way-index missing_edge (omega arith) c.loop-way.invariant c.if-not-has_none_left.ensures.all

pub returns-clause-all : goal.returns-clause-all
returns-clause-all c =
    all_done (HasNoneLeft c.args.points.now c.args.face.now c.args.plane.now) c.args.ways.now c.loop-way.way-index (omega arith) c.loop-way.invariant
