use Rattle.std.proofs.Common.{◌≡◌, ◌<◌, length, ap, sym, subst, ◌∙◌, arith, rules}
use Rattle.csg_tree.specs.declared.tree.CsgTree.TheVariants.{Leaf, rolls-Leaf}
use Rattle.csg_tree.specs.declared.tree.CsgTree.TheOpen.{Leaf as LeafIn}
use Rattle.csg_tree.specs.declared.tree.CsgTree.TheFolds.{fold-roll-CsgTree}
use Rattle.csg_tree.specs.HalfSpaceTrees.{Tree, leaf}
use Rattle.csg_tree.specs.Trees.{plain_tree_of, plain_tree_step}
use Rattle.csg_tree.specs.ProperTrees.{IsProper, IsLeafPlane}
use Rattle.std.specs.List.{All}
use Rattle.tree_cases.proofs.proper.leaf.Goals as goal

pub returns : goal.returns
returns c =
    let form : plain_tree_of (Leaf c.of.result) ≡ leaf c.of.result =
    ap plain_tree_of (sym (rolls-Leaf c.of.result)) ∙ fold-roll-CsgTree Tree plain_tree_step (LeafIn c.of.result) in
    let some : 0 < length c.of.result = search rules in
    let all : All IsLeafPlane c.of.result = subst (All IsLeafPlane) (sym c.of.ensures) c.loop-plane.invariant in
    let proper : IsProper (leaf c.of.result) = record { leaves = (some, all); joins = tt; few = omega arith } in
    subst IsProper (sym form) proper
