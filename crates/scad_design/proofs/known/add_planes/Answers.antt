use Rattle.std.proofs.Common.{subst, arith}
use Rattle.plane_predicate.specs.Space.{IsPlane}
use Rattle.primitives.proofs.lemmas.Lists.{all_done, all_next}
use Rattle.scad_design.proofs.KnownPlanes.{plane_added}
use Rattle.scad_design.proofs.known.add_planes.Goals as goal

pub loop-plane-preserved : goal.loop-plane-preserved
loop-plane-preserved c = record {
  added = plane_added c.loop-plane.known.keys _ c.args.planes.now c.loop-plane.plane-index c.plane-item.result c.loop-plane-test.true c.plane-item.is c.in_ok-add_plane.ensures.added _ c.loop-plane.invariant.added;
  planes = all_next IsPlane c.args.planes.now c.loop-plane.plane-index c.plane-item.result (omega arith) c.loop-plane.invariant.planes (subst IsPlane c.plane-item.is c.in_ok-add_plane.ensures.plane);
}

pub returns-clause-planes : goal.returns-clause-planes
returns-clause-planes c = all_done IsPlane c.args.planes.now c.loop-plane.plane-index (omega arith) c.loop-plane.invariant.planes
