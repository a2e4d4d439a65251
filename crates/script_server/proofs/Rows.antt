-- Joins of trees that are written out.
use Rattle.std.proofs.Common.{◌≡◌, [], refl}
use Rattle.csg_tree.specs.declared.op.Op.TheVariants.{Union, Difference}
use Rattle.csg_tree.specs.HalfSpaceTrees.{Tree, nothing, leaf, tree_join}
use Rattle.csg_tree.specs.Numberings.{nodes_of}
use Rattle.bsp_boolean.specs.TreeSolids.{join_count}

no_join : join_count (nodes_of nothing) ≡ 0
no_join = refl

-- a leaf that is joined with itself
one_join : join_count (nodes_of (tree_join Difference (leaf []) (leaf []))) ≡ 1
one_join = refl

-- a join that stands twice counts once
abbrev twice : Tree
twice = tree_join Difference (tree_join Union (leaf []) (leaf [])) (tree_join Union (leaf []) (leaf []))

two_joins : join_count (nodes_of twice) ≡ 2
two_joins = refl
