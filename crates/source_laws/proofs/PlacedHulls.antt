-- Each leaf of a placed design of hulls holds only within reach.
use Rattle.std.proofs.Common.{◌≡◌, ◌⊎◌, inl, inr, ℕ, true, ◌&&◌, List, [], ◌∷◌, sym, subst, ap, ◌∙◌, arith, ℤ, pos, ◌<ℤ◌, int_lt, All}
use Rattle.std.specs.List.{list_all}
use Rattle.std.proofs.lemmas.Bool.{and_parts}
use Rattle.std.proofs.lemmas.Int.{ints}
use Rattle.std.proofs.lemmas.List.Elements.{All-cons, All-nil}
use Rattle.plane_predicate.specs.Space.{Coefficients, Coordinates, point_at, value, IsInReach}
use Rattle.int_transform.specs.declared.affine.Affine.{Affine}
use Rattle.int_transform.specs.Maps.{map_of}
use Rattle.primitives.specs.Placing.{moved_mesh, IsBehindAll}
use Rattle.primitives.specs.Shapes.{Mesh}
use Rattle.shape_hulls.specs.OwnHulls.{ArePlacedPlanes, IsHullOfItsCorners, IsHullOfItsPoints}
use Rattle.csg_tree.specs.declared.op.Op.{Op}
use Rattle.csg_tree.specs.declared.op.Op.TheVariants.{Union, Intersection, Difference}
use Rattle.csg_tree.specs.HalfSpaceTrees.{Tree, nothing, leaf, tree_join, sides_of}
use Rattle.csg_tree.specs.Joins.{join_of}
use Rattle.csg_tree.specs.Reach.{KeepsWithinReach, LeavesKeepWithinReach}
use Rattle.scad_design.specs.Designs.{DesignTree, empty, a_leaf, joined_designs, MovedShape}
use Rattle.scad_design.specs.Placing.{PlacingOutcome, placing_tree, placing_fault, placing_of_join, IsPlacedLeaf, PlacesDesign, PlacesRight}
use Rattle.scad_design.specs.Trees.{IsPlacedAs}
use Rattle.scad_design.proofs.lemmas.FacePlanes.{images_are_in_reach}
use Rattle.source_laws.specs.SourceHulls.{IsHullShape, AreHullShapes}

-- ---- joins
leaves_joined : (op : Op) (l r : Tree) → LeavesKeepWithinReach l → LeavesKeepWithinReach r → LeavesKeepWithinReach (join_of op l r)
leaves_joined Union nothing r h k = k
leaves_joined Union (leaf ps) nothing h k = h
leaves_joined Union (leaf ps) (leaf qs) h k = (h, k)
leaves_joined Union (leaf ps) (tree_join p c d) h k = (h, k)
leaves_joined Union (tree_join o a b) nothing h k = h
leaves_joined Union (tree_join o a b) (leaf qs) h k = (h, k)
leaves_joined Union (tree_join o a b) (tree_join p c d) h k = (h, k)
leaves_joined Intersection nothing r h k = tt
leaves_joined Intersection (leaf ps) nothing h k = tt
leaves_joined Intersection (leaf ps) (leaf qs) h k = (h, k)
leaves_joined Intersection (leaf ps) (tree_join p c d) h k = (h, k)
leaves_joined Intersection (tree_join o a b) nothing h k = tt
leaves_joined Intersection (tree_join o a b) (leaf qs) h k = (h, k)
leaves_joined Intersection (tree_join o a b) (tree_join p c d) h k = (h, k)
leaves_joined Difference nothing r h k = tt
leaves_joined Difference (leaf ps) nothing h k = h
leaves_joined Difference (leaf ps) (leaf qs) h k = (h, k)
leaves_joined Difference (leaf ps) (tree_join p c d) h k = (h, k)
leaves_joined Difference (tree_join o a b) nothing h k = h
leaves_joined Difference (tree_join o a b) (leaf qs) h k = (h, k)
leaves_joined Difference (tree_join o a b) (tree_join p c d) h k = (h, k)

-- ---- a leaf
below_back : (x y : ℤ) → int_lt x y ≡ true → x <ℤ y
below_back x y h = grind (arith, ints)

all_behind : (planes : List Coefficients) (p : Coordinates) → list_all (sides_of p) planes ≡ true → IsBehindAll planes p
all_behind [] p h = All-nil (λ (m : Coefficients). value m p <ℤ pos 0)
all_behind (m ∷ planes) p h =
    let k = and_parts (sides_of p m) (list_all (sides_of p) planes) h in
    All-cons (λ (m : Coefficients). value m p <ℤ pos 0) m planes (below_back (value m p) (pos 0) k.0) (all_behind planes p k.1)

-- what is placed, where there is a tree
abbrev IsKept : PlacingOutcome → Type 0
IsKept (placing_tree tree known) = LeavesKeepWithinReach tree
IsKept (placing_fault kind at) = Unit {0}

-- planes of a placed hull of one kind leave nothing behind them but what is within reach
abbrev StaysInReach : (Mesh → Type 0) → Type 0
StaysInReach Hull = (mesh : Mesh) (f : Affine) (planes : List Coefficients) → ArePlacedPlanes mesh f planes → Hull mesh →
    All (λ p. IsInReach (point_at p)) (moved_mesh f mesh).points → (q : Coordinates) → pos 0 <ℤ q.w → IsBehindAll planes q → IsInReach q

module _ (by_points : StaysInReach IsHullOfItsPoints) (by_faces : StaysInReach IsHullOfItsCorners) where
  hull_stays : StaysInReach (λ mesh. IsHullOfItsPoints mesh ⊎ IsHullOfItsCorners mesh)
  hull_stays mesh f planes are (inl hull) points = by_points mesh f planes are hull points
  hull_stays mesh f planes are (inr hull) points = by_faces mesh f planes are hull points

  leaf_kept : (part : MovedShape) (known planes : List Coefficients) → IsHullShape part.mesh → IsPlacedLeaf part known planes → KeepsWithinReach (leaf planes)
  leaf_kept part known planes hull is p w solid =
      let f = map_of part.steps in
      hull_stays part.mesh f planes (record { shape = hull.0; solid = is.planes_are.solid; planes_are = is.planes_are.faces }) hull.1
      (images_are_in_reach f part.mesh.points is.reach) p w (all_behind planes p solid)

  -- ---- a design
  join_kept : (op : Op) (first : Tree) (next : PlacingOutcome) → LeavesKeepWithinReach first → IsKept next → IsKept (placing_of_join op first next)
  join_kept op first (placing_tree second known) h k = leaves_joined op first second h k
  join_kept op first (placing_fault kind at) h k = tt

  right_kept : (op : Op) (right : DesignTree) (first out : PlacingOutcome) → IsKept first → ((known : List Coefficients) (next : PlacingOutcome) → PlacesDesign right known next → IsKept next) →
      PlacesRight (PlacesDesign right) op first out → IsKept out
  right_kept op right (placing_tree tree known) out h k r = subst IsKept (sym r.2) (join_kept op tree r.0 h (k known r.0 r.1))
  right_kept op right (placing_fault kind at) out h k r = subst IsKept (sym r) tt

  design_kept : (design : DesignTree) (known : List Coefficients) (out : PlacingOutcome) → AreHullShapes design → PlacesDesign design known out → IsKept out
  design_kept empty known out hulls h = subst IsKept (sym h) tt
  design_kept (a_leaf part) known (placing_tree tree now) hulls h = subst LeavesKeepWithinReach (sym h.2) (leaf_kept part known h.0 hulls h.1)
  design_kept (a_leaf part) known (placing_fault kind at) hulls h = tt
  design_kept (joined_designs op left right) known out hulls h =
      right_kept op right h.0 out (design_kept left known h.0 hulls.0 h.1) (λ known next there. design_kept right known next hulls.1 there) h.2

  pub placed_kept : (design : DesignTree) (tree : Tree) → AreHullShapes design → IsPlacedAs design tree → LeavesKeepWithinReach tree
  placed_kept design tree hulls h = design_kept design [] (placing_tree tree h.0) hulls h.1
