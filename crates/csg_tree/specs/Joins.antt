-- How trees are joined.
use Rattle.std.specs.Prelude.{ℕ, zero, suc, ◌/◌, List, [], ◌∷◌, length, take, drop}
use Rattle.csg_tree.specs.declared.op.Op.{Op}
use Rattle.csg_tree.specs.declared.op.Op.TheVariants.{Union, Intersection, Difference}
use Rattle.csg_tree.specs.HalfSpaceTrees.{Tree, nothing, tree_join}

-- a join without Nothing: in a union Nothing gives the other side, in an intersection Nothing, Nothing minus
-- anything is Nothing, and a tree minus Nothing is the tree
abbrev pub join_of : Op → Tree → Tree → Tree
join_of Union nothing right = right
join_of Intersection nothing right = nothing
join_of Difference nothing right = nothing
join_of Union left nothing = left
join_of Intersection left nothing = nothing
join_of Difference left nothing = left
join_of op left right = tree_join op left right

-- the trees joined by halves, where the halves are halved at most this often
abbrev pub joined_within : ℕ → Op → List Tree → Tree
joined_within zero op trees = nothing
joined_within (suc depth) op [] = nothing
joined_within (suc depth) op (tree ∷ []) = tree
joined_within (suc depth) op (tree ∷ next ∷ trees) =
    let all = tree ∷ next ∷ trees in
    join_of op (joined_within depth op (take (length all / 2) all))
    (joined_within depth op (drop (length all / 2) all))

-- the trees joined by halves: none gives Nothing, one itself, and more the join of the first half of them,
-- rounded down, and the rest
abbrev pub balanced_of : Op → List Tree → Tree
balanced_of op trees = joined_within (length trees) op trees
