-- The bytes of a join are its front and what is left of its second tree.
use Rattle.std.proofs.Common.{◌≡◌, ◌∷◌, ◌++◌, ap, refl, ◌∙◌, append_assoc}
use Rattle.csg_tree.specs.declared.op.Op.{Op}
use Rattle.csg_tree.specs.declared.op.Op.TheVariants.{Union, Intersection, Difference}
use Rattle.csg_tree.specs.HalfSpaceTrees.{Tree, nothing, leaf, tree_join}
use Rattle.csg_tree.specs.Keys.{tree_bytes, op_byte}
use Rattle.csg_tree.specs.Fronts.{front_of_second, rest_of_second}

-- a second tree is what belongs to the front and what is left of it
front_and_rest : (op : Op) (right : Tree) → front_of_second op right ++ rest_of_second op right ≡ tree_bytes right
front_and_rest Union right = refl
front_and_rest Intersection right = refl
front_and_rest Difference nothing = refl
front_and_rest Difference (leaf planes) = refl
front_and_rest Difference (tree_join by first second) = refl

pub front_and_end : (op : Op) (left right : Tree) →
    (op_byte op ∷ tree_bytes left ++ front_of_second op right) ++ rest_of_second op right ≡ tree_bytes (tree_join op left right)
front_and_end op left right =
    ap (λ bytes. op_byte op ∷ bytes) (append_assoc (tree_bytes left) (front_of_second op right) (rest_of_second op right)
    ∙ ap (λ bytes. tree_bytes left ++ bytes) (front_and_rest op right))
