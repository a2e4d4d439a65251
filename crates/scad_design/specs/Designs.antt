-- Designs: shapes with the steps that move them, joined, before they are placed.
use Rattle.std.specs.Prelude.{ℕ, zero, suc, ◌/◌, List, [], ◌∷◌, ◌++◌, length, take, drop}
use Rattle.plain_text.specs.declared.place.Place.{Place}
use Rattle.csg_tree.specs.declared.op.Op.{Op}
use Rattle.csg_tree.specs.declared.op.Op.TheVariants.{Union, Intersection, Difference}
use Rattle.int_transform.specs.declared.affine.Affine.{Affine}
use Rattle.primitives.specs.Shapes.{Mesh}

-- a shape in grid steps, the steps that move it, the first done first, and the place of its module's name
pub record MovedShape : Type 0 where
  pub mesh : Mesh
  pub steps : List Affine
  pub at : Place

-- a design before it is placed: nothing, a shape with the steps that move it, or an operation on two designs
pub data DesignTree : Type 0 where
  empty : DesignTree
  a_leaf : (shape : MovedShape) → DesignTree
  joined_designs : (op : Op) → (left right : DesignTree) → DesignTree

-- a join without empty designs, as trees are joined: in a union the other side, in an intersection nothing, nothing minus
-- anything is nothing, and a design minus nothing is the design
abbrev pub join : Op → DesignTree → DesignTree → DesignTree
join Union empty right = right
join Intersection empty right = empty
join Difference empty right = empty
join Union left empty = left
join Intersection left empty = empty
join Difference left empty = left
join op left right = joined_designs op left right

-- designs joined by halves, where the halves are halved at most this often
abbrev pub balanced_join_within : ℕ → Op → List DesignTree → DesignTree
balanced_join_within zero op designs = empty
balanced_join_within (suc depth) op [] = empty
balanced_join_within (suc depth) op (design ∷ []) = design
balanced_join_within (suc depth) op (design ∷ next ∷ designs) =
    let all = design ∷ next ∷ designs in
    join op (balanced_join_within depth op (take (length all / 2) all))
    (balanced_join_within depth op (drop (length all / 2) all))

-- designs joined by halves: none is empty, one itself, and more the join of the first half of them, rounded down, and the
-- rest
abbrev pub balanced_join : Op → List DesignTree → DesignTree
balanced_join op designs = balanced_join_within (length designs) op designs

-- children joined by an operation; a difference is the first without the others
abbrev pub join_children : Op → List DesignTree → DesignTree
join_children Difference [] = empty
join_children Difference (first ∷ others) = join Difference first (balanced_join Union others)
join_children op designs = balanced_join op designs

-- steps at the end of those of each leaf
abbrev pub moved_design_tree : List Affine → DesignTree → DesignTree
moved_design_tree steps empty = empty
moved_design_tree steps (a_leaf shape) = a_leaf (record { mesh = shape.mesh; steps = shape.steps ++ steps; at = shape.at })
moved_design_tree steps (joined_designs op left right) = joined_designs op (moved_design_tree steps left) (moved_design_tree steps right)
