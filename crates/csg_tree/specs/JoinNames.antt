-- The names of joins.
use Rattle.std.specs.Prelude.{ℕ, List, Option, Some, None}
use Rattle.csg_tree.specs.HalfSpaceTrees.{Tree, nothing, leaf, tree_join}
use Rattle.csg_tree.specs.TreeKeys.{name_of}

-- the name of a tree that is a join
abbrev pub name_of_join : Tree → Option (List ℕ)
name_of_join nothing = None
name_of_join (leaf planes) = None
name_of_join (tree_join op left right) = Some (name_of (tree_join op left right))
