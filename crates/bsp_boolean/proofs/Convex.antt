-- The solids of leaves: what lies behind the planes of all of their faces.
use Rattle.std.proofs.Common.{◌≡◌, ℕ, false, List, [], ◌∷◌, ◌∙◌, map, refl, sym, ap, subst, All, Result, Ok, Err}
use Rattle.std.specs.Prelude.{IfOk}
use Rattle.plane_predicate.specs.Space.{Coefficients, IsPlane, ComesInReach}
use Rattle.plane_polygon.specs.Polygons.{Outline}
use Rattle.plane_polygon.specs.Boxes.{box_outline}
use Rattle.csg_tree.specs.HalfSpaceTrees.{leaf}
use Rattle.bsp_tree.specs.Trees.{BspTree, inside, outside, node, node_or_leaf}
use Rattle.bsp_tree.specs.Shapes.{tree_of, SolidParts}
use Rattle.bsp_tree.specs.Partitions.{divide}
use Rattle.bsp_boolean.specs.declared.leaf_building.BuildStop.{BuildStop}
use Rattle.bsp_boolean.specs.Chains.{part_behind_all}
use Rattle.bsp_boolean.specs.Combined.{combination}
use Rattle.bsp_boolean.specs.LeafSolids.{solid_of_leaf, IsBuilt, IsSolidOf}
use Rattle.bsp_boolean.proofs.LeafSolids.{leaf_is_solid}

-- a half space intersected with a solid is the solid's part behind the plane
halved : (s : Outline) (r : BspTree) → node_or_leaf s (divide r s).0 outside ≡ combination false (node s inside outside) r
halved s inside = refl
halved s outside = refl
halved s (node t c d) = refl

pub all_is_convex : (planes : List Coefficients) → part_behind_all (map box_outline planes) ≡ solid_of_leaf planes
all_is_convex [] = refl
all_is_convex (m ∷ []) = refl
all_is_convex (m ∷ n ∷ planes) =
    let s = box_outline m in
    ap (λ (r : BspTree). node_or_leaf s (divide r s).0 outside) (all_is_convex (n ∷ planes)) ∙ halved s (solid_of_leaf (n ∷ planes))

-- what was built of the faces of a leaf's planes
pub leaf_built : (planes : List Coefficients) (outlines : List Outline) (most : ℕ) (r : Result SolidParts BuildStop) →
    outlines ≡ map box_outline planes → IsBuilt (part_behind_all outlines) most r → IsBuilt (solid_of_leaf planes) most r
leaf_built planes outlines most r e h =
    subst (λ (t : BspTree). IsBuilt t most r) (ap part_behind_all e ∙ all_is_convex planes) h

-- what holds of the wanted solid holds of the built one
built_holds : (r : Result SolidParts BuildStop) (wanted : BspTree) (most : ℕ) (P : BspTree → Type 0) →
    IsBuilt wanted most r → P wanted → IfOk r (λ u. P (tree_of u))
built_holds (Ok made) wanted most P h k = subst P (sym h.0) k
built_holds (Err stop) wanted most P h k = tt

pub built_is_solid : (planes : List Coefficients) (most : ℕ) (r : Result SolidParts BuildStop) → All IsPlane planes → All ComesInReach planes →
    IsBuilt (solid_of_leaf planes) most r → IfOk r (λ u. IsSolidOf (leaf planes) (tree_of u))
built_is_solid planes most r whole reach h =
    built_holds r (solid_of_leaf planes) most (λ u. IsSolidOf (leaf planes) u) h
    (leaf_is_solid planes (λ k d l. record { plane = whole k d l; reach = reach k d l }))
