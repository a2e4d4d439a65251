-- Joins of full trees.
use Rattle.std.proofs.Common.{◌≡◌, ℕ, ◌+◌, ◌≤◌, arith, subst, ap, sym, ◌∙◌, Global}
use Rattle.std.specs.declared.boxed.Box.{Box}
use Rattle.csg_tree.specs.declared.op.Op.{Op}
use Rattle.csg_tree.specs.declared.op.Op.TheVariants.{Union, Intersection, Difference}
use Rattle.csg_tree.specs.HalfSpaceTrees.{Tree, nothing, leaf, tree_join}
use Rattle.csg_tree.specs.Joins.{join_of}
use Rattle.csg_tree.specs.ProperTrees.{subtree_count}
use Rattle.scad_design.specs.declared.design.Design.{Design}
use Rattle.scad_design.specs.declared.design.Design.TheVariants.{Joined, rolls-Joined}
use Rattle.scad_design.specs.declared.design.Design.TheOpen.{Joined as JoinedIn}
use Rattle.scad_design.specs.declared.design.Design.TheFolds.{fold-roll-Design}
use Rattle.scad_design.specs.Designs.{DesignTree, joined_designs}
use Rattle.scad_design.specs.View.{plain_of, plain_step}

few_of : (op : Op) (l r : Tree) → subtree_count (join_of op l r) ≤ 1 + subtree_count l + subtree_count r
few_of Union nothing r = omega arith
few_of Union (leaf ps) nothing = omega arith
few_of Union (leaf ps) (leaf qs) = omega arith
few_of Union (leaf ps) (tree_join p c d) = omega arith
few_of Union (tree_join o a b) nothing = omega arith
few_of Union (tree_join o a b) (leaf qs) = omega arith
few_of Union (tree_join o a b) (tree_join p c d) = omega arith
few_of Intersection nothing r = omega arith
few_of Intersection (leaf ps) nothing = omega arith
few_of Intersection (leaf ps) (leaf qs) = omega arith
few_of Intersection (leaf ps) (tree_join p c d) = omega arith
few_of Intersection (tree_join o a b) nothing = omega arith
few_of Intersection (tree_join o a b) (leaf qs) = omega arith
few_of Intersection (tree_join o a b) (tree_join p c d) = omega arith
few_of Difference nothing r = omega arith
few_of Difference (leaf ps) nothing = omega arith
few_of Difference (leaf ps) (leaf qs) = omega arith
few_of Difference (leaf ps) (tree_join p c d) = omega arith
few_of Difference (tree_join o a b) nothing = omega arith
few_of Difference (tree_join o a b) (leaf qs) = omega arith
few_of Difference (tree_join o a b) (tree_join p c d) = omega arith

-- a join has at most one subtree more than its two sides
pub few_joined : (op : Op) (l r tree : Tree) (m n : ℕ) → tree ≡ join_of op l r → subtree_count l ≤ m → subtree_count r ≤ n → subtree_count tree ≤ 1 + m + n
few_joined op l r tree m n e hl hr = subst (λ (t : Tree). subtree_count t ≤ 1 + m + n) (sym e) (omega (arith, few_of op l r, hl, hr))

-- what a join in memory stands for
pub joined_form : (op : Op) (left right : Box Design Global) → plain_of (Joined op left right) ≡ joined_designs op (plain_of left.value) (plain_of right.value)
joined_form op left right = ap plain_of (sym (rolls-Joined op left right)) ∙ fold-roll-Design DesignTree plain_step (JoinedIn op left right)
