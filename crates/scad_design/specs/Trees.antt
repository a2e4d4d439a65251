-- The trees of designs, by themselves.
use Rattle.std.specs.Prelude.{◌≡◌, ℕ, ◌+◌, pos, List, [], All}
use Rattle.text_place.specs.declared.fault.Stop.{Stop}
use Rattle.text_place.specs.declared.fault.Stop.TheVariants.{Fault, NoMemory}
use Rattle.plane_predicate.specs.Space.{Coefficients}
use Rattle.int_transform.specs.declared.affine.Affine.{Affine}
use Rattle.int_transform.specs.Maps.{determinant_of}
use Rattle.primitives.specs.Shapes.{IsShape}
use Rattle.csg_tree.specs.HalfSpaceTrees.{Tree, nothing, leaf}
use Rattle.csg_tree.specs.Joins.{join_of}
use Rattle.csg_tree.specs.ProperTrees.{HasFullLeaves, HasFullJoins}
use Rattle.scad_design.specs.Designs.{DesignTree, empty, a_leaf, joined_designs, MovedShape}
use Rattle.scad_design.specs.Placing.{placing_tree, placing_fault, AreWorldPlanes, IsPlacingFault, PlacesDesign}

-- the tree of a design in world position, whatever the limits are
abbrev pub IsTreeOf : DesignTree → Tree → Type 0
IsTreeOf empty tree = tree ≡ nothing
IsTreeOf (a_leaf shape) tree = (planes : List Coefficients) × AreWorldPlanes shape planes × (tree ≡ leaf planes)
IsTreeOf (joined_designs op left right) tree =
    (first : Tree) × (second : Tree) × IsTreeOf left first × IsTreeOf right second × (tree ≡ join_of op first second)

-- how many leaves and joins a design has, with an empty one counted as well
abbrev pub tree_size : DesignTree → ℕ
tree_size empty = 1
tree_size (a_leaf shape) = 1
tree_size (joined_designs op left right) = 1 + tree_size left + tree_size right

-- a stop of placing, behind these planes: the first fault, or that memory ran out
abbrev pub IsStopOf : DesignTree → List Coefficients → Stop → Type 0
IsStopOf design known (Fault fault) = PlacesDesign design known (placing_fault fault.kind fault.place)
IsStopOf design known NoMemory = Unit {0}

-- how many leaves it has
abbrev pub leaf_count : DesignTree → ℕ
leaf_count empty = 0
leaf_count (a_leaf shape) = 1
leaf_count (joined_designs op left right) = leaf_count left + leaf_count right

-- the design is not empty
abbrev pub IsNotEmpty : DesignTree → Type 0
IsNotEmpty empty = ⊥
IsNotEmpty (a_leaf shape) = Unit {0}
IsNotEmpty (joined_designs op left right) = Unit {0}

-- a design in which no join has an empty side
abbrev pub IsTrim : DesignTree → Type 0
IsTrim empty = Unit {0}
IsTrim (a_leaf shape) = Unit {0}
IsTrim (joined_designs op left right) = IsNotEmpty left × IsNotEmpty right × IsTrim left × IsTrim right

-- steps that are not singular
abbrev pub AreRegular : List Affine → Type 0
AreRegular steps = All (λ step. determinant_of step ≡ pos 0 → ⊥) steps

-- a design of shapes, moved by steps that are not singular
abbrev pub IsSoundDesign : DesignTree → Type 0
IsSoundDesign empty = Unit {0}
IsSoundDesign (a_leaf shape) = IsShape shape.mesh × AreRegular shape.steps
IsSoundDesign (joined_designs op left right) = IsSoundDesign left × IsSoundDesign right

-- a stop of a leaf by itself: its first fault, whatever planes were there before it, or that memory ran out
abbrev pub IsRangeStop : MovedShape → Stop → Type 0
IsRangeStop shape (Fault fault) = ((known : List Coefficients) → IsPlacingFault shape known fault.kind) × (fault.place ≡ shape.at)
IsRangeStop shape NoMemory = Unit {0}

-- the tree of a placed design: its leaves are placed from the first on
abbrev pub IsPlacedAs : DesignTree → Tree → Type 0
IsPlacedAs design tree = (now : List Coefficients) × PlacesDesign design [] (placing_tree tree now)

-- a tree whose leaves and joins are full
pub record IsFullTree (tree : Tree) : Type 0 where
  pub leaves : HasFullLeaves tree
  pub joins : HasFullJoins tree
