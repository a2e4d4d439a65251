-- The hull of what children give: of the points of their leaves, once their steps have moved them.
use Rattle.std.specs.Prelude.{◌≡◌, Bool, true, false, ◌&&◌, ℤ, List, [], ◌++◌}
use Rattle.text_place.specs.declared.fault.FaultKind.{FaultKind}
use Rattle.text_place.specs.declared.fault.FaultKind.TheVariants.{NotInProfile, TooLarge}
use Rattle.csg_tree.specs.declared.op.Op.TheVariants.{Union, Intersection, Difference}
use Rattle.int_transform.specs.Maps.{map_of}
use Rattle.primitives.specs.declared.stop.ShapeStop.TheVariants.{Kind}
use Rattle.primitives.specs.Shapes.{Mesh}
use Rattle.primitives.specs.Placing.{moved_mesh}
use Rattle.scad_hull.specs.Hulls.{hull_of}
use Rattle.scad_hull.specs.Refusals.{HaveHull, IsHullStop}
use Rattle.scad_design.specs.Designs.{DesignTree, empty, a_leaf, joined_designs}
use Rattle.scad_design.specs.Placing.{StaysSafe}

-- whether a design has no leaf
abbrev pub is_nothing : DesignTree → Bool
is_nothing empty = true
is_nothing (a_leaf shape) = false
is_nothing (joined_designs op left right) = false

-- a design with no join but unions
abbrev pub is_union : DesignTree → Bool
is_union empty = true
is_union (a_leaf shape) = true
is_union (joined_designs Union left right) = is_union left && is_union right
is_union (joined_designs Intersection left right) = false
is_union (joined_designs Difference left right) = false

-- the points of all leaves from left to right, each moved by its leaf's steps
abbrev pub points_of : DesignTree → List (List ℤ)
points_of empty = []
points_of (a_leaf shape) = (moved_mesh (map_of shape.steps) shape.mesh).points
points_of (joined_designs op left right) = points_of left ++ points_of right

-- the points of each leaf keep within 2^53 - 1 after each step
abbrev pub StaySafe : DesignTree → Type 0
StaySafe empty = Unit {0}
StaySafe (a_leaf shape) = StaysSafe shape
StaySafe (joined_designs op left right) = StaySafe left × StaySafe right

-- the shape of a hull: that of all the points
abbrev pub hull_mesh : DesignTree → Mesh
hull_mesh design = hull_of (points_of design)

-- a design with a hull
pub record HasHull (design : DesignTree) : Type 0 where
  pub union : is_union design ≡ true
  pub safe : StaySafe design
  pub points : HaveHull (points_of design)

-- why a design has no hull, the first that holds: it has a join other than a union; a coordinate of a leaf's point is past
-- 2^53 - 1 after a step; or the points have none
abbrev pub IsHullFault : DesignTree → FaultKind → Type 0
IsHullFault design NotInProfile = is_union design ≡ false
IsHullFault design TooLarge = (is_union design ≡ true) × (StaySafe design → ⊥)
IsHullFault design kind = (is_union design ≡ true) × StaySafe design × IsHullStop (points_of design) (Kind kind)
