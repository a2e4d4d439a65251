-- Formulas that hold only within reach.
use Rattle.std.proofs.Common.{inl, inr, not, sym, true≢false}
use Rattle.std.proofs.lemmas.Bool.{and_parts, or_cases}
use Rattle.csg_tree.specs.declared.op.Op.TheVariants.{Union, Intersection, Difference}
use Rattle.csg_tree.specs.HalfSpaceTrees.{Tree, nothing, leaf, tree_join, holds, sides_of}
use Rattle.csg_tree.specs.Reach.{KeepsWithinReach, LeavesKeepWithinReach}

pub joins_keep : (f : Tree) → LeavesKeepWithinReach f → KeepsWithinReach f
joins_keep nothing h p w solid = absurd (true≢false (sym solid))
joins_keep (leaf planes) h p w solid = h p w solid
joins_keep (tree_join Union left right) h p w solid = elim (or_cases (holds left (sides_of p)) (holds right (sides_of p)) solid) [
  | inl k ↦ joins_keep left h.0 p w k
  | inr k ↦ joins_keep right h.1 p w k
]
joins_keep (tree_join Intersection left right) h p w solid = joins_keep left h.0 p w (and_parts (holds left (sides_of p)) (holds right (sides_of p)) solid).0
joins_keep (tree_join Difference left right) h p w solid = joins_keep left h.0 p w (and_parts (holds left (sides_of p)) (not (holds right (sides_of p))) solid).0
