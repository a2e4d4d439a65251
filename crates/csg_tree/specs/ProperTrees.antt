-- The trees of which solids are made.
use Rattle.std.specs.Prelude.{ℕ, ◌+◌, ◌^◌, ◌<◌, length, All}
use Rattle.plane_predicate.specs.Space.{Coefficients, IsPlane, ComesInReach}
use Rattle.csg_tree.specs.HalfSpaceTrees.{Tree, nothing, leaf, tree_join}

-- a plane of a leaf: it has the numbers of a plane, and a point whose coordinates are at most 4095 in size
pub record IsLeafPlane (m : Coefficients) : Type 0 where
  pub plane : IsPlane m
  pub reach : ComesInReach m

-- each leaf has at least one plane, and all its planes are planes of a leaf
abbrev pub HasFullLeaves : Tree → Type 0
HasFullLeaves nothing = Unit {0}
HasFullLeaves (leaf planes) = (0 < length planes) × All IsLeafPlane planes
HasFullLeaves (tree_join op left right) = HasFullLeaves left × HasFullLeaves right

-- the tree is not Nothing
abbrev pub IsSomething : Tree → Type 0
IsSomething nothing = ⊥
IsSomething (leaf planes) = Unit {0}
IsSomething (tree_join op left right) = Unit {0}

-- no join has Nothing as a child
abbrev pub HasFullJoins : Tree → Type 0
HasFullJoins nothing = Unit {0}
HasFullJoins (leaf planes) = Unit {0}
HasFullJoins (tree_join op left right) = IsSomething left × IsSomething right × HasFullJoins left
    × HasFullJoins right

-- how many subtrees a tree has, with itself
abbrev pub subtree_count : Tree → ℕ
subtree_count nothing = 1
subtree_count (leaf planes) = 1
subtree_count (tree_join op left right) = 1 + subtree_count left + subtree_count right

-- a tree of which a solid is made: its leaves and its joins are full, and it has fewer than 2^32 subtrees
pub record IsProper (f : Tree) : Type 0 where
  pub leaves : HasFullLeaves f
  pub joins : HasFullJoins f
  pub few : subtree_count f < 2 ^ 32
