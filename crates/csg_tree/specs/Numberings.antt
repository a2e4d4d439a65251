-- The nodes of a tree: its distinct subtrees other than Nothing, by height and then by first appearance.
use Rattle.std.specs.Prelude.{◌≡◌, ℕ, zero, suc, ◌+◌, ◌-◌, ◌≤◌, nat_eq, max, Bool, true, false, not, ◌&&◌, List, [], ◌∷◌, ◌++◌, length, get_or}
use Rattle.std.specs.List.{filter}
use Rattle.std.specs.Cmp.Lexicographic.{pointwise}
use Rattle.plane_predicate.specs.Space.{is_same}
use Rattle.csg_tree.specs.declared.op.Op.{Op}
use Rattle.csg_tree.specs.declared.op.Op.TheVariants.{Union, Intersection, Difference}
use Rattle.csg_tree.specs.HalfSpaceTrees.{Tree, nothing, leaf, tree_join}

-- a leaf has height 0, and a join is one higher than the higher of its two trees
abbrev pub height : Tree → ℕ
height nothing = 0
height (leaf planes) = 0
height (tree_join op left right) = 1 + max (height left) (height right)

-- each occurrence of a subtree other than Nothing, from left to right, a join behind its two trees. Among subtrees of
-- one height, of which none is in another, this is the order in which they appear
abbrev pub occurrences : Tree → List Tree
occurrences nothing = []
occurrences (leaf planes) = leaf planes ∷ []
occurrences (tree_join op left right) = occurrences left ++ occurrences right ++ tree_join op left right ∷ []

-- the trees of height below n, the lower ones first, and those of one height in order
abbrev pub by_height : ℕ → List Tree → List Tree
by_height zero trees = []
by_height (suc n) trees = by_height n trees ++ filter (λ tree. nat_eq (height tree) n) trees

-- whether two operations are equal
abbrev pub is_same_op : Op → Op → Bool
is_same_op Union Union = true
is_same_op Intersection Intersection = true
is_same_op Difference Difference = true
is_same_op _ _ = false

-- the same tree: planes are the same by their numbers
abbrev pub is_same_tree : Tree → Tree → Bool
is_same_tree nothing nothing = true
is_same_tree (leaf planes) (leaf more) = pointwise is_same planes more
is_same_tree (tree_join op left right) (tree_join by first second) =
    is_same_op op by && (is_same_tree left first && is_same_tree right second)
is_same_tree _ _ = false

-- of trees that are the same, the first alone
abbrev pub distinct_trees : List Tree → List Tree
distinct_trees [] = []
distinct_trees (tree ∷ trees) = tree ∷ filter (λ other. not (is_same_tree tree other)) (distinct_trees trees)

-- the nodes of a tree in order of number
abbrev pub nodes_of : Tree → List Tree
nodes_of tree = distinct_trees (by_height (suc (height tree)) (occurrences tree))

-- the tree of a number, where the first one is 1
abbrev pub tree_numbered : List Tree → ℕ → Tree
tree_numbered trees number = get_or trees (number - 1) nothing

-- a number of one of some things, where the first one is 1
abbrev pub IsNumberIn : {X : Type 0} → List X → ℕ → Type 0
IsNumberIn things number = (1 ≤ number) × (number ≤ length things)

-- the tree has this number
abbrev pub HasNumber : List Tree → Tree → ℕ → Type 0
HasNumber trees tree number = IsNumberIn trees number × (tree_numbered trees number ≡ tree)

-- each tree has one number
abbrev pub HaveOneNumber : List Tree → Type 0
HaveOneNumber trees = (m n : ℕ) → IsNumberIn trees m → IsNumberIn trees n → tree_numbered trees m ≡ tree_numbered trees n → m ≡ n

-- trees of which each has one number, and of a join both of its trees have one
pub record AreNumberedTrees (trees : List Tree) : Type 0 where
  pub once : HaveOneNumber trees
  pub parts : (n : ℕ) (op : Op) (left right : Tree) → HasNumber trees (tree_join op left right) n →
      ((l : ℕ) × HasNumber trees left l) × ((r : ℕ) × HasNumber trees right r)
