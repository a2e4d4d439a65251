-- The text of the facets of a formula's solid is the boundary of the formula.
use Rattle.std.proofs.Common.{◌⊎◌, inl, inr, ℕ, ◌<◌, Bool, not, ◌&&◌, List, [], ◌∷◌, map, slice_index_or, ap₂, subst}
use Rattle.std.specs.List.{All}
use Rattle.std.proofs.lemmas.List.Elements.{All-nil, All-cons, All-head, All-tail, All-weaker}
use Rattle.plane_predicate.specs.declared.unit.Unit.{Unit as LengthUnit}
use Rattle.plane_predicate.specs.Space.{Coefficients, Coordinates, opposite_of, IsInClosedWorld}
use Rattle.plane_predicate.specs.InUnits.{in_steps}
use Rattle.plane_polygon.specs.Polygons.{Outline, edge_count, corner as corner_of}
use Rattle.csg_tree.specs.HalfSpaceTrees.{Tree}
use Rattle.csg_tree.specs.FacePlanes.{IsFacePlane, IsOnOneFacePlane, sides_just_behind, sides_just_ahead, is_boundary_at}
use Rattle.csg_tree.specs.ProperTrees.{IsProper}
use Rattle.bsp_tree.specs.Cells.{world_box, IsNodePlaneOf}
use Rattle.bsp_tree.proofs.lemmas.Worlds.{open_world}
use Rattle.bsp_boolean.specs.LeafSolids.{IsSolidOf}
use Rattle.bsp_boolean.specs.Solids.{solid_of}
use Rattle.bsp_boolean.proofs.lemmas.Solids.{tree_is_solid}
use Rattle.facet_cut.specs.Facets.{facets_of}
use Rattle.facet_cut.specs.Sides.{walk_by, IsOnOneNodePlane}
use Rattle.facet_cut.proofs.lemmas.FacetPolygons.{all_facets, world_corners}
use Rattle.facet_cut.proofs.lemmas.Boundaries.{facets_bound}
use Rattle.plane_polygon.specs.Parts.{corners}
use Rattle.closed_surface.specs.Closed.{corners_at}
use Rattle.closed_surface.specs.Printing.{AreRoundsOf}
use Rattle.closed_surface.proofs.lemmas.Printing.{printed_closed}
use Rattle.closed_surface.proofs.lemmas.Closing.{facets_closed}
use Rattle.off_text.specs.Boundaries.{face_corner, FaceCovers, OneExactlyWhere}
use Rattle.off_text.specs.Prints.{IsPrintedFaceOf, ArePrintedFacesOf, Prints}
use Rattle.off_text.specs.Bounding.{IsBoundaryFace, IsBoundary}
use Rattle.off_text.proofs.Covered.{HasPlane, covering_of, as_facets}
use Rattle.off_text.proofs.Boxed.{boxed as in_world_reduced}
use Rattle.off_text.proofs.lemmas.BesideFaces.{BesideLeaves, beside_leaves, face_plane_is_plane}

-- the facets of a formula's solid
record IsFacetOfFormula (f : Tree) (s : Outline) : Type 0 where
  pub plane : IsFacePlane s.plane f
  pub boxed : (i : ℕ) → i < edge_count s → IsInClosedWorld (corner_of s i)

facet_plane : (f : Tree) (m : Coefficients) → IsSolidOf f (solid_of f) →
    IsNodePlaneOf m (solid_of f) ⊎ IsNodePlaneOf (opposite_of m) (solid_of f) → IsFacePlane m f
facet_plane f m h (inl k) = inl (h.planes m k)
facet_plane f m h (inr k) = inr (h.planes (opposite_of m) k)

formula_facets : (f : Tree) → IsSolidOf f (solid_of f) → All (IsFacetOfFormula f) (facets_of (solid_of f))
formula_facets f h k d l =
    let s = slice_index_or (facets_of (solid_of f)) k d in record {
      plane = facet_plane f s.plane h (all_facets (solid_of f) world_box h.world k d l).plane;
      boxed = world_corners (solid_of f) h.world k d l;
    }

-- each printed face is a face of the boundary
module _ (unit : LengthUnit) (f : Tree) (vertices : List Coordinates) where
  face_bounds : (s : Outline) (face : List ℕ) → IsPrintedFaceOf unit vertices s face → IsFacetOfFormula f s →
      IsBoundaryFace unit f vertices face
  face_bounds s face h k = record {
    plane = s.plane;
    of_formula = k.plane;
    faces = h.facing;
    boxed = λ i l. (
        let c = h.corners i l in
        in_world_reduced unit (corner_of s c.place) (face_corner vertices face i) c.times (k.boxed c.place c.within));
  }

  faces_bound : (polygons : List Outline) (faces : List (List ℕ)) → ArePrintedFacesOf unit vertices polygons faces →
      All (IsFacetOfFormula f) polygons → All (IsBoundaryFace unit f vertices) faces
  faces_bound [] [] h k = All-nil (IsBoundaryFace unit f vertices)
  faces_bound [] (face ∷ faces) h k = absurd h
  faces_bound (s ∷ polygons) [] h k = absurd h
  faces_bound (s ∷ polygons) (face ∷ faces) h k =
      All-cons (IsBoundaryFace unit f vertices) face faces
      (face_bounds s face h.0 (All-head (IsFacetOfFormula f) s polygons k))
      (faces_bound polygons faces h.1 (All-tail (IsFacetOfFormula f) s polygons k))

-- the text is the boundary
-- a point that is on one face plane is on no other plane of the solid
on_one_plane : (f : Tree) (n : Coefficients) (p : Coordinates) → IsSolidOf f (solid_of f) →
    IsOnOneFacePlane f n p → IsOnOneNodePlane world_box (solid_of f) n p
on_one_plane f n p solid h =
    record { point_in = (open_world p).1 h.world; on = h.on; alone = λ m k. h.alone m (solid.planes m k) }

covered_where : (unit : LengthUnit) (f : Tree) (bytes : List ℕ) → IsProper f → IsSolidOf f (solid_of f) →
    (text : Prints unit (facets_of (solid_of f)) bytes) → BesideLeaves f → (n : Coefficients) (p : Coordinates) →
    IsOnOneFacePlane f n (in_steps unit p) → OneExactlyWhere (is_boundary_at f n (in_steps unit p)) (FaceCovers unit text.vertices n p) text.faces
covered_where unit f bytes h solid text beside n p o =
    let t = solid_of f in
    let q = in_steps unit p in
    let low = sides_just_behind n q in
    let high = sides_just_ahead n q in
    let b = beside n q o in
    subst (λ (c : Bool). OneExactlyWhere c (FaceCovers unit text.vertices n p) text.faces)
    (ap₂ (λ (i j : Bool). i && not j) b.2 b.3)
    (as_facets unit text.vertices n (face_plane_is_plane f n h.leaves o.face_plane) p (facets_of t) text.faces
    (All-weaker (IsFacetOfFormula f) HasPlane (λ s k. face_plane_is_plane f s.plane h.leaves k.plane)
    (facets_of t) (formula_facets f solid))
    (covering_of unit text.vertices (facets_of t) text.faces text.drawn) (walk_by t low && not (walk_by t high))
    (facets_bound world_box t solid.world n q (on_one_plane f n q solid o) low high b.0 b.1))

-- the corners of the faces are those of the facets
rounds : (unit : LengthUnit) (vertices : List Coordinates) (polygons : List Outline) (faces : List (List ℕ)) → ArePrintedFacesOf unit vertices polygons faces → AreRoundsOf unit (map corners polygons) (map (corners_at vertices) faces)
rounds unit vertices [] [] h = tt
rounds unit vertices [] (face ∷ faces) h = absurd h
rounds unit vertices (s ∷ polygons) [] h = absurd h
rounds unit vertices (s ∷ polygons) (face ∷ faces) h = (h.0.round, rounds unit vertices polygons faces h.1)

pub boundary_from : (unit : LengthUnit) (f : Tree) (bytes : List ℕ) → IsProper f → Prints unit (facets_of (solid_of f)) bytes →
    BesideLeaves f → IsBoundary unit bytes f
boundary_from unit f bytes h text beside =
    let solid = tree_is_solid f h.leaves in
    let facets = facets_of (solid_of f) in record {
      vertices = text.vertices;
      faces = text.faces;
      read = text.read;
      own_vertices = text.own_vertices;
      bounding = faces_bound unit f text.vertices facets text.faces text.drawn (formula_facets f solid);
      covered = covered_where unit f bytes h solid text beside;
      closed = printed_closed unit (map corners facets) (map (corners_at text.vertices) text.faces) (rounds unit text.vertices facets text.faces text.drawn)
          (facets_closed (solid_of f) solid.world (facets_bound world_box (solid_of f) solid.world) (all_facets (solid_of f) world_box solid.world));
    }

-- the text of the facets of a proper tree's solid is the tree's boundary
pub boundary : (unit : LengthUnit) (f : Tree) (bytes : List ℕ) → IsProper f → Prints unit (facets_of (solid_of f)) bytes → IsBoundary unit bytes f
boundary unit f bytes h text = boundary_from unit f bytes h text (beside_leaves f h.leaves)
