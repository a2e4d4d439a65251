-- Placing: the leaves of a design from left to right, as planes in world position.
use Rattle.std.specs.Prelude.{◌≡◌, ℕ, ◌<◌, ◌≤◌, List, [], ◌∷◌, ◌++◌, length, All, Bool, true, false, ◌||◌}
use Rattle.std.specs.List.{list_any}
use Rattle.plain_text.specs.declared.place.Place.{Place}
use Rattle.text_place.specs.declared.fault.FaultKind.{FaultKind}
use Rattle.text_place.specs.declared.fault.FaultKind.TheVariants.{TooLarge, OutOfRange, TooManyPlanes}
use Rattle.plane_predicate.specs.Space.{Coefficients, point_at, opposite_of, is_same, IsInReach, IsPlane}
use Rattle.int_transform.specs.Maps.{map_of, image, KeepsSafeCoordinates}
use Rattle.primitives.specs.Shapes.{IsFaceOfShape}
use Rattle.primitives.specs.Placing.{moved_mesh, ArePlanesOf}
use Rattle.csg_tree.specs.declared.op.Op.{Op}
use Rattle.csg_tree.specs.HalfSpaceTrees.{Tree, nothing, leaf}
use Rattle.csg_tree.specs.Joins.{join_of}
use Rattle.scad_design.specs.Designs.{DesignTree, empty, a_leaf, joined_designs, MovedShape}

-- two planes of the same points
abbrev pub is_same_or_opposite : Coefficients → Coefficients → Bool
is_same_or_opposite one other = is_same one other || is_same one (opposite_of other)

-- known planes, and behind them one that is not known
abbrev pub with_plane_unless_known : Bool → List Coefficients → Coefficients → List Coefficients
with_plane_unless_known true known plane = known
with_plane_unless_known false known plane = known ++ plane ∷ []

-- known planes, and behind them those of a leaf that are new, up to orientation
abbrev pub with_new_planes : List Coefficients → List Coefficients → List Coefficients
with_new_planes known [] = known
with_new_planes known (plane ∷ planes) = with_new_planes (with_plane_unless_known (list_any (is_same_or_opposite plane) known) known plane) planes

-- a leaf whose points all keep within 2^53 - 1 after each step
abbrev pub StaysSafe : MovedShape → Type 0
StaysSafe shape = All (λ point. KeepsSafeCoordinates shape.steps (point_at point)) shape.mesh.points

-- a leaf whose points are all within 4,095 at the end
abbrev pub EndsInReach : MovedShape → Type 0
EndsInReach shape = All (λ point. IsInReach (image (map_of shape.steps) (point_at point))) shape.mesh.points

-- the planes of a leaf in world position: those of its moved faces, of equal ones the first. Each face has one, with the
-- body behind it
pub record AreWorldPlanes (shape : MovedShape) (planes : List Coefficients) : Type 0 where
  pub reduced : All IsPlane planes
  pub solid : All (IsFaceOfShape (moved_mesh (map_of shape.steps) shape.mesh)) shape.mesh.faces
  pub faces : ArePlanesOf (moved_mesh (map_of shape.steps) shape.mesh) shape.mesh.faces planes

-- what placing gives: the tree with the distinct planes so far, or the first fault
pub data PlacingOutcome : Type 0 where
  placing_tree : (tree : Tree) → (known : List Coefficients) → PlacingOutcome
  placing_fault : (kind : FaultKind) → (at : Place) → PlacingOutcome

-- the most distinct planes of a tree, up to orientation
abbrev pub most_planes : ℕ
most_planes = 1024

-- a leaf, behind the distinct planes of those before it
pub record IsPlacedLeaf (shape : MovedShape) (known : List Coefficients) (planes : List Coefficients) : Type 0 where
  pub safe : StaysSafe shape
  pub reach : EndsInReach shape
  pub planes_are : AreWorldPlanes shape planes
  pub few : length (with_new_planes known planes) ≤ most_planes

-- the first fault of a leaf: a coordinate is past 2^53 - 1 after a step; else one is past 4,095 at the end; else the leaf
-- brings the 1,025th distinct plane
abbrev pub IsPlacingFault : MovedShape → List Coefficients → FaultKind → Type 0
IsPlacingFault shape known TooLarge = StaysSafe shape → ⊥
IsPlacingFault shape known OutOfRange = StaysSafe shape × (EndsInReach shape → ⊥)
IsPlacingFault shape known TooManyPlanes =
    StaysSafe shape × EndsInReach shape
    × ((planes : List Coefficients) × AreWorldPlanes shape planes × (most_planes < length (with_new_planes known planes)))
IsPlacingFault shape known kind = ⊥

-- a leaf by itself
abbrev pub PlacesLeaf : MovedShape → List Coefficients → PlacingOutcome → Type 0
PlacesLeaf shape known (placing_tree tree now) =
    (planes : List Coefficients) × IsPlacedLeaf shape known planes × (tree ≡ leaf planes) × (now ≡ with_new_planes known planes)
PlacesLeaf shape known (placing_fault kind at) = IsPlacingFault shape known kind × (at ≡ shape.at)

-- the right side of a join, behind the left one
abbrev pub placing_of_join : Op → Tree → PlacingOutcome → PlacingOutcome
placing_of_join op left (placing_tree right known) = placing_tree (join_of op left right) known
placing_of_join op left (placing_fault kind at) = placing_fault kind at

-- the right side of a join, behind what placing the left one gave
abbrev pub PlacesRight : (List Coefficients → PlacingOutcome → Type 0) → Op → PlacingOutcome → PlacingOutcome → Type 0
PlacesRight right op (placing_fault kind at) out = out ≡ placing_fault kind at
PlacesRight right op (placing_tree tree known) out = (next : PlacingOutcome) × right known next × (out ≡ placing_of_join op tree next)

-- the leaves of a design from left to right, behind the distinct planes of those before them
abbrev pub PlacesDesign : DesignTree → List Coefficients → PlacingOutcome → Type 0
PlacesDesign empty known out = out ≡ placing_tree nothing known
PlacesDesign (a_leaf shape) known out = PlacesLeaf shape known out
PlacesDesign (joined_designs op left right) known out = (first : PlacingOutcome) × PlacesDesign left known first × PlacesRight (PlacesDesign right) op first out
