use Rattle.std.proofs.Common.{◌≡◌, ap, sym, subst, ◌∙◌, arith}
use Rattle.csg_tree.specs.declared.tree.CsgTree.TheVariants.{Nothing, rolls-Nothing}
use Rattle.csg_tree.specs.declared.tree.CsgTree.TheOpen.{Nothing as NothingIn}
use Rattle.csg_tree.specs.declared.tree.CsgTree.TheFolds.{fold-roll-CsgTree}
use Rattle.csg_tree.specs.HalfSpaceTrees.{Tree, nothing}
use Rattle.csg_tree.specs.Trees.{plain_tree_of, plain_tree_step}
use Rattle.csg_tree.specs.ProperTrees.{IsProper}
use Rattle.tree_cases.proofs.proper.nothing.Goals as goal

pub returns : goal.returns
returns c =
    let form : plain_tree_of Nothing ≡ nothing =
    ap plain_tree_of (sym rolls-Nothing) ∙ fold-roll-CsgTree Tree plain_tree_step NothingIn in
    let proper : IsProper nothing = record { leaves = tt; joins = tt; few = omega arith } in
    subst IsProper (sym form) proper
