-- The numbers of trees by height.
use Rattle.std.specs.Prelude.{ℕ, suc, ◌+◌, ◌-◌, max, nat_eq, if◌then◌else◌, List, [], ◌∷◌, get_or, map, Vec}
use Rattle.csg_tree.specs.declared.node.StoredNode.{StoredNode}
use Rattle.csg_tree.specs.declared.node.StoredNode.TheVariants.{Leaf, Join}
use Rattle.csg_tree.specs.HalfSpaceTrees.{Tree}
use Rattle.csg_tree.specs.Numberings.{height}

-- the numbers of the trees of height h, where the first one has the number n
abbrev pub numbers_from : ℕ → ℕ → List Tree → List ℕ
numbers_from n h [] = []
numbers_from n h (tree ∷ trees) =
    if nat_eq (height tree) h then n ∷ numbers_from (suc n) h trees else numbers_from (suc n) h trees

-- the numbers of the trees of this height, in order
abbrev pub numbers_of_height : ℕ → List Tree → List ℕ
numbers_of_height h trees = numbers_from 1 h trees

-- the numbers at a height
abbrev pub level_at : {Z : Type 0} → List (Vec ℕ Z) → ℕ → List ℕ
level_at levels h = get_or (map (λ level. level.items) levels) h []

-- the height of a node, over the heights of the nodes before it
abbrev pub height_over : List ℕ → StoredNode → ℕ
height_over heights (Leaf planes) = 0
height_over heights (Join op left right) = 1 + max (get_or heights (left - 1) 0) (get_or heights (right - 1) 0)
