use Rattle.std.proofs.Common.{◌≡◌, All, drop, take}
use Rattle.plane_predicate.specs.Space.{IsPlane}
use Rattle.scad_design.specs.Placing.{with_new_planes}
use Rattle.scad_design.proofs.known.add_planes.Given as goal

abbrev pub invariant-loop-plane : goal.invariant-loop-plane
invariant-loop-plane l = record {
  added : with_new_planes l.known.keys (drop l.plane-index l.planes) ≡ with_new_planes l.initial.known.keys l.planes;
  planes : All IsPlane (take l.plane-index l.planes);
}
