-- Trees that hold only within reach.
use Rattle.std.specs.Prelude.{◌≡◌, true, pos, ◌<ℤ◌}
use Rattle.plane_predicate.specs.Space.{Coordinates, IsInReach}
use Rattle.csg_tree.specs.HalfSpaceTrees.{Tree, nothing, leaf, tree_join, holds, sides_of}

-- each point at which the tree holds has coordinates that are at most 4,095 in size
abbrev pub KeepsWithinReach : Tree → Type 0
KeepsWithinReach f = (p : Coordinates) → pos 0 <ℤ p.w → holds f (sides_of p) ≡ true → IsInReach p

-- the same of each leaf by itself
abbrev pub LeavesKeepWithinReach : Tree → Type 0
LeavesKeepWithinReach nothing = Unit {0}
LeavesKeepWithinReach (leaf planes) = KeepsWithinReach (leaf planes)
LeavesKeepWithinReach (tree_join op left right) = LeavesKeepWithinReach left × LeavesKeepWithinReach right
