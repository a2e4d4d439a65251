-- The tree of a placed design of shapes is proper: the planes of its leaves have the numbers of a plane and come in reach, its
-- joins have no empty side, and it has no more subtrees than the design has pieces.
use Rattle.std.proofs.Common.{ℕ, ◌+◌, ◌≤◌, ◌<◌, ◌^◌, List, [], ◌∷◌, length, refl, sym, subst, arith, All}
use Rattle.std.specs.List.{AllZip}
use Rattle.plane_predicate.specs.Space.{Coefficients, ComesInReach}
use Rattle.int_transform.specs.Maps.{map_of}
use Rattle.primitives.specs.Shapes.{Mesh, IsPlaneOfFace, IsShape}
use Rattle.primitives.specs.Placing.{moved_mesh}
use Rattle.primitives.proofs.lemmas.Distinct.{some_distinct}
use Rattle.primitives.proofs.lemmas.Transforms.{planes_meet_reach}
use Rattle.csg_tree.specs.declared.op.Op.{Op}
use Rattle.csg_tree.specs.HalfSpaceTrees.{Tree, leaf}
use Rattle.csg_tree.specs.Joins.{join_of}
use Rattle.csg_tree.specs.ProperTrees.{subtree_count, IsProper}
use Rattle.scad_design.specs.Designs.{DesignTree, empty, a_leaf, joined_designs, MovedShape}
use Rattle.scad_design.specs.Placing.{PlacingOutcome, placing_tree, placing_fault, placing_of_join, IsPlacedLeaf, PlacesDesign, PlacesRight}
use Rattle.scad_design.specs.Trees.{tree_size, IsPlacedAs, IsSoundDesign}
use Rattle.scad_design.proofs.lemmas.FacePlanes.{images_are_in_reach}
use Rattle.scad_design.proofs.FullTrees.{few_joined}

-- ---- a leaf
some_planes : (mesh : Mesh) (faces : List (List ℕ)) (all : List Coefficients) → AllZip (IsPlaneOfFace mesh) faces all → 0 < length faces → 0 < length all
some_planes mesh [] all h lt = absurd (omega (arith, lt))
some_planes mesh (face ∷ faces) [] h lt = absurd h
some_planes mesh (face ∷ faces) (m ∷ all) h lt = omega arith

proper_leaf : (part : MovedShape) (known planes : List Coefficients) → IsShape part.mesh → IsPlacedLeaf part known planes → IsProper (leaf planes)
proper_leaf part known planes shape is =
    let f = map_of part.steps in
    let mesh = moved_mesh f part.mesh in
    let faces = is.planes_are.faces in
    let some : 0 < length planes = subst (λ (ps : List Coefficients). 0 < length ps) (sym faces.first) (some_distinct faces.all (some_planes mesh part.mesh.faces faces.all faces.each shape.some)) in
    let meet : All ComesInReach planes = planes_meet_reach mesh is.planes_are.solid (images_are_in_reach f part.mesh.points is.reach) planes faces in
    record {
      leaves = (some, λ k d lt. record { plane = is.planes_are.reduced k d lt; reach = record { point = (meet k d lt).point; reach = (meet k d lt).reach; on = (meet k d lt).on } });
      joins = tt;
      few = omega arith;
    }

-- ---- a design
-- a proper tree with at most the given number of subtrees, where there is a tree
record IsSmall (pieces : ℕ) (tree : Tree) : Type 0 where
  pub proper : IsProper tree
  pub few : subtree_count tree ≤ pieces

abbrev IsSmallPlaced : ℕ → PlacingOutcome → Type 0
IsSmallPlaced pieces (placing_tree tree known) = IsSmall pieces tree
IsSmallPlaced pieces (placing_fault kind at) = Unit {0}

module _ (joins : (op : Op) (left right : Tree) → IsProper left → IsProper right → 1 + subtree_count left + subtree_count right < 2 ^ 32 → IsProper (join_of op left right)) where
  small_join : (op : Op) (m n : ℕ) (first : Tree) (next : PlacingOutcome) → 1 + m + n < 2 ^ 32 → IsSmall m first → IsSmallPlaced n next → IsSmallPlaced (1 + m + n) (placing_of_join op first next)
  small_join op m n first (placing_tree second known) few h g = record {
    proper = joins op first second h.proper g.proper (omega (arith, few, h.few, g.few));
    few = few_joined op first second (join_of op first second) m n refl h.few g.few;
  }
  small_join op m n first (placing_fault kind at) few h g = tt

  small_right : (op : Op) (right : DesignTree) (m n : ℕ) (first out : PlacingOutcome) → 1 + m + n < 2 ^ 32 → IsSmallPlaced m first →
      ((known : List Coefficients) (next : PlacingOutcome) → PlacesDesign right known next → IsSmallPlaced n next) → PlacesRight (PlacesDesign right) op first out → IsSmallPlaced (1 + m + n) out
  small_right op right m n (placing_tree tree known) out few h small r =
      subst (IsSmallPlaced (1 + m + n)) (sym r.2) (small_join op m n tree r.0 few h (small known r.0 r.1))
  small_right op right m n (placing_fault kind at) out few h small r = subst (IsSmallPlaced (1 + m + n)) (sym r) tt

  small_placed : (design : DesignTree) (known : List Coefficients) (out : PlacingOutcome) → IsSoundDesign design → tree_size design < 2 ^ 32 → PlacesDesign design known out → IsSmallPlaced (tree_size design) out
  small_placed empty known out sound few h =
      subst (IsSmallPlaced 1) (sym h) (record { proper = record { leaves = tt; joins = tt; few = omega arith }; few = omega arith })
  small_placed (a_leaf part) known (placing_tree tree now) sound few h =
      subst (IsSmall 1) (sym h.2) (record { proper = proper_leaf part known h.0 sound.0 h.1; few = omega arith })
  small_placed (a_leaf part) known (placing_fault kind at) sound few h = tt
  small_placed (joined_designs op left right) known out sound few h =
      small_right op right (tree_size left) (tree_size right) h.0 out few (small_placed left known h.0 sound.0 (omega (arith, few)) h.1)
      (λ known next there. small_placed right known next sound.1 (omega (arith, few)) there) h.2

  pub proper_placed : (design : DesignTree) (tree : Tree) → IsSoundDesign design → tree_size design < 2 ^ 32 → IsPlacedAs design tree → IsProper tree
  proper_placed design tree sound few h = (small_placed design [] (placing_tree tree h.0) sound few h.1).proper
