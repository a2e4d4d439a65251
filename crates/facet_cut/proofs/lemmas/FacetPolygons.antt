-- What each facet of a solid is: a polygon of a node's plane or its opposite, in the closed cell.
use Rattle.std.proofs.Common.{◌≡◌, ◌⊎◌, ℕ, ◌<◌, inl, inr, Bool, true, false, List, [], ◌∷◌, ◌++◌, ap, ◌∙◌, flat_map}
use Rattle.std.specs.List.{All}
use Rattle.std.proofs.lemmas.List.Elements.{All-nil, All-cons, All-head, All-tail, All-append, All-weaker}
use Rattle.plane_predicate.specs.Space.{Coefficients, Coordinates, opposite_of, IsInClosedWorld}
use Rattle.plane_polygon.specs.Polygons.{Outline, Covers, IsPolygon, corner, edge_count}
use Rattle.bsp_tree.specs.Trees.{BspTree, inside, outside, node}
use Rattle.bsp_tree.specs.Cells.{IsInClosedCell, IsOfCell, IsOfWorld, IsNodePlaneOf, world_box}
use Rattle.bsp_tree.proofs.lemmas.Opposites.{opposite_twice}
use Rattle.bsp_tree.proofs.lemmas.PolygonsOfCells.{corner_covered}
use Rattle.bsp_tree.proofs.lemmas.Worlds.{closed_world}
use Rattle.facet_cut.specs.Facets.{Piece, pieces, reversed_outline, facets_facing, facets_ahead, facets_between, facets_of}
use Rattle.facet_cut.specs.Sides.{IsFacetOf, HasNone}
use Rattle.facet_cut.proofs.Reversals.{reversed_polygon, covers_back}
use Rattle.facet_cut.proofs.Pieces.{IsPartOf, part_itself, pieces_parts}

all_flat_map : {A B : Type 0} (P : B → Type 0) (f : A → List B) (xs : List A) →
    All (λ (x : A). All P (f x)) xs → All P (flat_map f xs)
all_flat_map P f [] h = All-nil P
all_flat_map {A} P f (x ∷ xs) h =
    All-append P (f x) (flat_map f xs) (All-head (λ (y : A). All P (f y)) x xs h)
    (all_flat_map P f xs (All-tail (λ (y : A). All P (f y)) x xs h))

one_item : {A : Type 0} (P : A → Type 0) (x : A) → P x → All P (x ∷ [])
one_item P x h = All-cons P x [] h (All-nil P)

pub none_of_all : {A : Type 0} (P : A → Type 0) (xs : List A) → All (λ (x : A). P x → ⊥) xs → HasNone P xs
none_of_all P [] h = tt
none_of_all {A} P (x ∷ xs) h =
    (All-head (λ (y : A). P y → ⊥) x xs h, none_of_all P xs (All-tail (λ (y : A). P y → ⊥) x xs h))

-- ---- the facets on one polygon
pub record IsFacetOn (s x : Outline) : Type 0 where
  pub polygon : IsPolygon x
  pub plane : (x.plane ≡ s.plane) ⊎ (x.plane ≡ opposite_of s.plane)
  pub covers : (p : Coordinates) → Covers x p → Covers s p

facing_on : (i j : Bool) (s r : Outline) → IsPartOf s r → All (IsFacetOn s) (facets_facing i j r)
facing_on true true s r h = All-nil (IsFacetOn s)
facing_on false false s r h = All-nil (IsFacetOn s)
facing_on true false s r h =
    one_item (IsFacetOn s) r (record { polygon = h.polygon; plane = inl h.plane; covers = h.covers })
facing_on false true s r h =
    one_item (IsFacetOn s) (reversed_outline r) (record {
      polygon = reversed_polygon r h.polygon;
      plane = inr (ap opposite_of h.plane);
      covers = λ p c. h.covers p (covers_back r p c);
    })

ahead_on : (i : Bool) (a : BspTree) (s r : Outline) → IsPartOf s r → All (IsFacetOn s) (facets_ahead i a r)
ahead_on i a s r h =
    all_flat_map (IsFacetOn s) (λ q. facets_facing i q.is_inside q.part) (pieces a r)
    (All-weaker (λ (q : Piece). IsPartOf s q.part)
    (λ (q : Piece). All (IsFacetOn s) (facets_facing i q.is_inside q.part))
    (λ q o. facing_on i q.is_inside s q.part o) (pieces a r) (pieces_parts a s r h))

pub between_on : (b a : BspTree) (s : Outline) → IsPolygon s → All (IsFacetOn s) (facets_between b a s)
between_on b a s h =
    all_flat_map (IsFacetOn s) (λ q. facets_ahead q.is_inside a q.part) (pieces b s)
    (All-weaker (λ (q : Piece). IsPartOf s q.part)
    (λ (q : Piece). All (IsFacetOn s) (facets_ahead q.is_inside a q.part))
    (λ q o. ahead_on q.is_inside a s q.part o) (pieces b s) (pieces_parts b s s (part_itself s h)))

-- ---- all facets
plane_here : (s x : Outline) (b a : BspTree) → (x.plane ≡ s.plane) ⊎ (x.plane ≡ opposite_of s.plane) →
    IsNodePlaneOf x.plane (node s b a) ⊎ IsNodePlaneOf (opposite_of x.plane) (node s b a)
plane_here s x b a (inl e) = inl (inl e)
plane_here s x b a (inr e) = inr (inl (ap opposite_of e ∙ opposite_twice s.plane))

plane_behind : (s x : Outline) (b a : BspTree) → IsNodePlaneOf x.plane b ⊎ IsNodePlaneOf (opposite_of x.plane) b →
    IsNodePlaneOf x.plane (node s b a) ⊎ IsNodePlaneOf (opposite_of x.plane) (node s b a)
plane_behind s x b a (inl h) = inl (inr (inl h))
plane_behind s x b a (inr h) = inr (inr (inl h))

plane_ahead : (s x : Outline) (b a : BspTree) → IsNodePlaneOf x.plane a ⊎ IsNodePlaneOf (opposite_of x.plane) a →
    IsNodePlaneOf x.plane (node s b a) ⊎ IsNodePlaneOf (opposite_of x.plane) (node s b a)
plane_ahead s x b a (inl h) = inl (inr (inr h))
plane_ahead s x b a (inr h) = inr (inr (inr h))

-- less of a cell's planes
closed_more : (m : Coefficients) (cell : List Coefficients) (p : Coordinates) → IsInClosedCell (m ∷ cell) p →
    IsInClosedCell cell p
closed_more m cell p h = record { weight = h.weight; below = h.below.1 }

pub all_facets : (t : BspTree) (cell : List Coefficients) → IsOfCell cell t →
    All (IsFacetOf cell t) (facets_of t)
all_facets inside cell h = All-nil (IsFacetOf cell inside)
all_facets outside cell h = All-nil (IsFacetOf cell outside)
all_facets (node s b a) cell h =
    let t = node s b a in
    let m = s.plane in
    let o = opposite_of s.plane in
    All-append (IsFacetOf cell t) (facets_between b a s ++ facets_of b) (facets_of a)
    (All-append (IsFacetOf cell t) (facets_between b a s) (facets_of b)
    (All-weaker (IsFacetOn s) (IsFacetOf cell t)
    (λ x f. record {
      polygon = f.polygon;
      plane = plane_here s x b a f.plane;
      closed =
          λ p c. ((h.0.covers p).0 (f.covers p c)).0;
    }) (facets_between b a s) (between_on b a s h.0.polygon))
    (All-weaker (IsFacetOf (m ∷ cell) b) (IsFacetOf cell t)
    (λ x f. record {
      polygon = f.polygon;
      plane = plane_behind s x b a f.plane;
      closed =
          λ p c. closed_more m cell p (f.closed p c);
    }) (facets_of b) (all_facets b (m ∷ cell) h.1)))
    (All-weaker (IsFacetOf (o ∷ cell) a) (IsFacetOf cell t)
    (λ x f. record {
      polygon = f.polygon;
      plane = plane_ahead s x b a f.plane;
      closed =
          λ p c. closed_more o cell p (f.closed p c);
    }) (facets_of a) (all_facets a (o ∷ cell) h.2))

-- ---- corners
pub world_corners : (t : BspTree) → IsOfWorld t →
    All (λ (x : Outline). (i : ℕ) → i < edge_count x → IsInClosedWorld (corner x i)) (facets_of t)
world_corners t h =
    All-weaker (IsFacetOf world_box t) (λ (x : Outline). (i : ℕ) → i < edge_count x → IsInClosedWorld (corner x i))
    (λ x f i l. (closed_world (corner x i)).0 (f.closed (corner x i) (corner_covered x f.polygon i l)))
    (facets_of t) (all_facets t world_box h)
