use Rattle.std.proofs.Common.{◌≡◌, map, take}
use Rattle.csg_tree.specs.Interned.{plane_of_numbers}
use Rattle.csg_tree.proofs.interner.plane_numbers.Given as goal

abbrev pub invariant-loop-plane : goal.invariant-loop-plane
invariant-loop-plane l = map plane_of_numbers l.numbers.items ≡ take l.plane-index l.planes
