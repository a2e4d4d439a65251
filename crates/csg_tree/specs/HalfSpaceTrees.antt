-- Constructive solid geometry over half spaces (OpenSCAD User Manual, "CSG Modelling").
use Rattle.std.specs.Prelude.{Bool, false, not, ◌&&◌, ◌||◌, List, ◌⊎◌, pos, int_lt, Contains}
use Rattle.std.specs.List.{list_all}
use Rattle.plane_predicate.specs.Space.{Coefficients, Coordinates, value}
use Rattle.csg_tree.specs.declared.op.Op.{Op}
use Rattle.csg_tree.specs.declared.op.Op.TheVariants.{Union, Intersection, Difference}

-- a leaf is the set of points behind all of its planes
pub data Tree : Type 0 where
  nothing : Tree
  leaf : List Coefficients → Tree
  tree_join : Op → Tree → Tree → Tree

-- for each plane, whether the side behind it is taken; else the side ahead is
abbrev pub SideAssignment : Type 0
SideAssignment = Coefficients → Bool

-- an operation on two truths: one of them, both, or the first without the second
abbrev pub truth_of_join : Op → Bool → Bool → Bool
truth_of_join Union left right = left || right
truth_of_join Intersection left right = left && right
truth_of_join Difference left right = left && not right

-- whether the tree holds under an assignment of sides to its planes
abbrev pub holds : Tree → SideAssignment → Bool
holds nothing sides = false
holds (leaf planes) sides = list_all sides planes
holds (tree_join op left right) sides = truth_of_join op (holds left sides) (holds right sides)

-- the sides of a point: whether it is strictly behind each plane
abbrev pub sides_of : Coordinates → SideAssignment
sides_of p m = int_lt (value m p) (pos 0)

-- the plane is a plane of some leaf
abbrev pub IsPlaneOf : Coefficients → Tree → Type 0
IsPlaneOf m nothing = ⊥
IsPlaneOf m (leaf planes) = Contains planes m
IsPlaneOf m (tree_join op left right) = IsPlaneOf m left ⊎ IsPlaneOf m right
