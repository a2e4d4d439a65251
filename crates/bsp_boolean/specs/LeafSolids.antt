-- The solids of leaves, when a solid is built, and when it is a tree.
use Rattle.std.specs.Prelude.{◌≡◌, ℕ, ◌<◌, ◌≤◌, false, List, [], ◌∷◌, Result, Ok, Err, pos}
use Rattle.plane_predicate.specs.Space.{Coefficients, Coordinates, value, IsInWorld}
use Rattle.csg_tree.specs.HalfSpaceTrees.{Tree, holds, sides_of}
use Rattle.csg_tree.specs.HalfSpaceTrees as trees
use Rattle.bsp_tree.specs.Shapes.{SolidParts}
use Rattle.bsp_tree.specs.Trees.{BspTree, inside, walk, size, half_space}
use Rattle.bsp_tree.specs.Cells.{IsOfWorld, IsNodePlaneOf}
use Rattle.bsp_tree.specs.Shapes.{tree_of}
use Rattle.bsp_tree.specs.declared.growing.GrowStop.{GrowStop}
use Rattle.bsp_tree.specs.declared.growing.GrowStop.TheVariants as growing
use Rattle.bsp_boolean.specs.declared.leaf_building.BuildStop.{BuildStop}
use Rattle.bsp_boolean.specs.declared.leaf_building.BuildStop.TheVariants.{TooBig, NoMemory}
use Rattle.bsp_boolean.specs.Combined.{combination}

-- the solid of a leaf: the half space behind its first plane, intersected with the solid of the others
abbrev pub solid_of_leaf : List Coefficients → BspTree
solid_of_leaf [] = inside
solid_of_leaf (m ∷ []) = half_space m
solid_of_leaf (m ∷ n ∷ planes) = combination false (half_space m) (solid_of_leaf (n ∷ planes))

-- a solid is built: the one that is wanted where its size is at most the limit, and else it is too big
abbrev pub IsBuilt : BspTree → ℕ → Result SolidParts BuildStop → Type 0
IsBuilt wanted most (Ok solid) = (tree_of solid ≡ wanted) × (size wanted ≤ most)
IsBuilt wanted most (Err TooBig) = most < size wanted
IsBuilt wanted most (Err NoMemory) = Unit {0}

-- a solid is the tree's: of the world box, with planes of the tree alone, and inside at a point of the box off the tree's
-- planes exactly where the tree holds with the point's sides
pub record IsSolidOf (f : Tree) (t : BspTree) : Type 0 where
  pub world : IsOfWorld t
  pub planes : (m : Coefficients) → IsNodePlaneOf m t → trees.IsPlaneOf m f
  pub walks : (p : Coordinates) → IsInWorld p →
      ((m : Coefficients) → trees.IsPlaneOf m f → value m p ≡ pos 0 → ⊥) →
      walk t p ≡ holds f (sides_of p)

-- what stops a solid from growing stops it from being built
abbrev pub build_stop_of : GrowStop → BuildStop
build_stop_of growing.TooBig = TooBig
build_stop_of growing.NoMemory = NoMemory
