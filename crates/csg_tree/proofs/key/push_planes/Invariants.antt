use Rattle.std.proofs.Common.{◌≡◌, ◌++◌, take}
use Rattle.std.specs.List.{flat_map}
use Rattle.csg_tree.specs.Keys.{plane_bytes}
use Rattle.csg_tree.proofs.key.push_planes.Given as goal

abbrev pub invariant-loop-plane : goal.invariant-loop-plane
invariant-loop-plane l = l.bytes.items ≡ l.fn.bytes.items ++ flat_map plane_bytes (take l.plane-index l.planes)
