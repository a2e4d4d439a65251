use Rattle.std.proofs.Common.{◌≡◌, ◌≤◌, ap, sym, subst, ◌∙◌, ℕ, rules}
use Rattle.csg_tree.specs.ProperTrees.{subtree_count}
use Rattle.csg_tree.specs.Trees.{plain_tree_of}
use Rattle.scad_design.specs.Designs.{joined_designs}
use Rattle.scad_design.specs.Trees.{tree_size}
use Rattle.scad_design.specs.View.{plain_of}
use Rattle.scad_design.proofs.FullTrees.{few_joined, joined_form}
use Rattle.scad_design.proofs.placing.+place_after.Goals as goal

pub returns-in_ok-join-in-Joined-clause-few : goal.returns-in_ok-join-in-Joined-clause-few
returns-in_ok-join-in-Joined-clause-few t c =
    let op = c.in-Joined.op in
    let left = plain_of c.in-Joined.left.value in
    let right = plain_of c.in-Joined.right.value in
    let form : plain_of c.args.design.now ≡ joined_designs op left right = ap plain_of c.in-Joined.is ∙ joined_form op c.in-Joined.left c.in-Joined.right in
    let first : subtree_count (plain_tree_of c.in_ok-left-in-Joined.left) ≤ tree_size left = search rules in
    let second : subtree_count (plain_tree_of c.in_ok-right-in-Joined.right) ≤ tree_size right = search rules in
    subst (λ (n : ℕ). subtree_count (plain_tree_of c.in_ok-join-in-Joined.field-0) ≤ n) (sym (ap tree_size form))
    (few_joined op (plain_tree_of c.in_ok-left-in-Joined.left) (plain_tree_of c.in_ok-right-in-Joined.right) _ (tree_size left) (tree_size right) c.in_ok-join-in-Joined.ensures first second)
