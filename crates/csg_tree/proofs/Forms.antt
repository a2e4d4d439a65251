-- What a join in memory stands for.
use Rattle.std.proofs.Common.{◌≡◌, ap, sym, ◌∙◌, Global}
use Rattle.std.specs.declared.boxed.Box.{Box}
use Rattle.csg_tree.specs.declared.op.Op.{Op}
use Rattle.csg_tree.specs.declared.tree.CsgTree.{CsgTree}
use Rattle.csg_tree.specs.declared.tree.CsgTree.TheVariants.{Join, rolls-Join}
use Rattle.csg_tree.specs.declared.tree.CsgTree.TheOpen.{Join as JoinIn}
use Rattle.csg_tree.specs.declared.tree.CsgTree.TheFolds.{fold-roll-CsgTree}
use Rattle.csg_tree.specs.HalfSpaceTrees.{Tree, tree_join}
use Rattle.csg_tree.specs.Trees.{plain_tree_of, plain_tree_step}

pub join_form : (op : Op) (left right : Box CsgTree Global) →
    plain_tree_of (Join op left right) ≡ tree_join op (plain_tree_of left.value) (plain_tree_of right.value)
join_form op left right = ap plain_tree_of (sym (rolls-Join op left right)) ∙ fold-roll-CsgTree Tree plain_tree_step (JoinIn op left right)
