use Rattle.std.proofs.Common.{◌≡◌, ◌+◌, take}
use Rattle.bsp_boolean.specs.TreeSolids.{join_count, HasFirstSolids}
use Rattle.bsp_boolean.proofs.tree_solids.tree_solid.Given as goal

abbrev pub invariant-loop-index : goal.invariant-loop-index
invariant-loop-index g l =
    HasFirstSolids l.fn.store l.index l.growth
    × (g.B.Builder.builds l.builder ≡ g.B.Builder.builds l.fn.builder + join_count (take l.index l.fn.store))
