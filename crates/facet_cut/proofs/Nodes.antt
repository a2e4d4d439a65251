-- The facets on faces between the trees of a forest's links.
use Rattle.std.proofs.Common.{◌≡◌, ℕ, ◌<◌, ◌≤◌, Bool, true, false, List, [], ◌++◌, length, flat_map, Result, Ok, Err, refl, sym, ap, ◌∙◌, subst, arith, append-nil, append_assoc, length-append}
use Rattle.std.proofs.lemmas.Bool.{false≢true}
use Rattle.std.proofs.lemmas.Grind.{flat_map-append}
use Rattle.plane_predicate.specs.Space.{Coefficients}
use Rattle.plane_polygon.specs.Polygons.{Outline}
use Rattle.plane_polygon.specs.declared.classes.Class.{Class}
use Rattle.plane_polygon.specs.declared.classes.Class.TheVariants.{Across}
use Rattle.plane_polygon.specs.Parts.{part_behind, part_ahead}
use Rattle.link_forest.specs.declared.link.Link.{Link}
use Rattle.link_forest.specs.declared.link.Link.TheVariants.{End, To}
use Rattle.link_forest.specs.declared.link.NodeId.{NodeId}
use Rattle.link_forest.specs.declared.forest.Entry.{Entry}
use Rattle.link_forest.specs.Forests.{IsNode}
use Rattle.plane_table.specs.declared.faces.Face.{Face}
use Rattle.plane_table.specs.declared.sorting.CornerSides.{CornerSides}
use Rattle.plane_table.specs.Tables.{plane_named}
use Rattle.plane_table.specs.Faces.{outline_of, AreSidesWhereAcross}
use Rattle.bsp_tree.specs.Links.{same_leaf}
use Rattle.bsp_tree.specs.Trees.{BspTree}
use Rattle.bsp_tree.specs.Shapes.{leaf_of, tree_at_link}
use Rattle.bsp_tree.proofs.lemmas.Sheets.{node_shown}
use Rattle.bsp_tree.proofs.lemmas.Wholes.{leaf_tree}
use Rattle.facet_cut.specs.declared.stops.CutStop.{CutStop}
use Rattle.facet_cut.specs.declared.stops.CutStop.TheVariants.{TooMany, NoMemory}
use Rattle.facet_cut.specs.Facets.{Piece, facets_ahead, facets_facing, pieces_on_sides, pieces, facets_of}
use Rattle.facet_cut.specs.Adding.{AddsFacetsWithin}

-- ---- ends
leaf_facets : (side : Bool) → facets_of (leaf_of side) ≡ []
leaf_facets true = refl
leaf_facets false = refl

leaf_pieces : (f : Piece → List Outline) (side : Bool) (s : Outline) →
    flat_map f (pieces (leaf_of side) s) ≡ f (record { part = s; is_inside = side })
leaf_pieces f true s = append-nil (f (record { part = s; is_inside = true }))
leaf_pieces f false s = append-nil (f (record { part = s; is_inside = false }))

-- an end has no facets
pub end_facets : (planes : List Coefficients) (nodes : List (Entry Face)) (side : Bool) →
    facets_of (tree_at_link planes nodes (End side)) ≡ []
end_facets planes nodes side = ap facets_of (leaf_tree planes nodes side) ∙ leaf_facets side

-- and a polygon is whole in it
pub end_pieces : (f : Piece → List Outline) (planes : List Coefficients) (nodes : List (Entry Face)) (side : Bool) (s : Outline) →
    flat_map f (pieces (tree_at_link planes nodes (End side)) s) ≡ f (record { part = s; is_inside = side })
end_pieces f planes nodes side s =
    ap (λ (t : BspTree). flat_map f (pieces t s)) (leaf_tree planes nodes side) ∙ leaf_pieces f side s

-- ---- nodes
-- what the pieces give of a face that lies across the plane of a link's node: what those of its parts give
pub across_node : (f : Piece → List Outline) (planes : List Coefficients) (nodes : List (Entry Face)) (link : Link) (id : NodeId)
    (own face : Face) (behind ahead : Link) (of_face : CornerSides) →
    link ≡ To id → IsNode nodes id own behind ahead →
    AreSidesWhereAcross (outline_of planes face) (plane_named planes own.plane) of_face → of_face.class ≡ Across →
    flat_map f (pieces (tree_at_link planes nodes link) (outline_of planes face)) ≡
    flat_map f (pieces (tree_at_link planes nodes behind) (part_behind (outline_of planes face) (plane_named planes own.plane))) ++
    flat_map f (pieces (tree_at_link planes nodes ahead) (part_ahead (outline_of planes face) (plane_named planes own.plane)))
across_node f planes nodes link id own face behind ahead of_face e n h x =
    let s = outline_of planes face in
    let m = plane_named planes own.plane in
    let b = tree_at_link planes nodes behind in
    let a = tree_at_link planes nodes ahead in
    ap (λ (at : Link). flat_map f (pieces (tree_at_link planes nodes at) s)) e
    ∙ ap (λ (t : BspTree). flat_map f (pieces t s)) (node_shown planes nodes id own behind ahead n.tree)
    ∙ ap (λ (y : Class). flat_map f (pieces_on_sides y (pieces b s) (pieces a s) (pieces b (part_behind s m)) (pieces a (part_ahead s m)))) (sym h.class ∙ x)
    ∙ flat_map-append f (pieces b (part_behind s m)) (pieces a (part_ahead s m))

-- ---- two leaves of one kind
-- between which nothing is added
no_wall : (side : Bool) (s : Outline) → facets_facing side side s ≡ []
no_wall true s = refl
no_wall false s = refl

pub same_leaf_facets : (planes : List Coefficients) (nodes : List (Entry Face)) (side : Bool) (ahead : Link) (s : Outline) → same_leaf (End side) ahead ≡ true →
    facets_ahead side (tree_at_link planes nodes ahead) s ≡ []
same_leaf_facets planes nodes true (End true) s e = end_pieces (λ (r : Piece). facets_facing true r.is_inside r.part) planes nodes true s ∙ no_wall true s
same_leaf_facets planes nodes false (End false) s e = end_pieces (λ (r : Piece). facets_facing false r.is_inside r.part) planes nodes false s ∙ no_wall false s
same_leaf_facets planes nodes true (End false) s e = absurd (false≢true e)
same_leaf_facets planes nodes false (End true) s e = absurd (false≢true e)
same_leaf_facets planes nodes true (To id) s e = absurd (false≢true e)
same_leaf_facets planes nodes false (To id) s e = absurd (false≢true e)

pub adds_none : {A : Type 0} (most : ℕ) (found : List Outline) (done : A) → length found ≤ most → AddsFacetsWithin [] most found found (Ok done)
adds_none most found done h = (sym (append-nil found), h)

-- ---- facets that are added one after the others
pub adds_more : {A : Type 0} (first others : List Outline) (most : ℕ) (old middle new : List Outline) (result : Result A CutStop) →
    middle ≡ old ++ first → AddsFacetsWithin others most middle new result → AddsFacetsWithin (first ++ others) most old new result
adds_more first others most old middle new (Ok done) e h = (h.0 ∙ ap (λ (xs : List Outline). xs ++ others) e ∙ append_assoc old first others, h.1)
adds_more first others most old middle new (Err TooMany) e h =
    subst (λ (xs : List Outline). most < length xs) (ap (λ (xs : List Outline). xs ++ others) e ∙ append_assoc old first others) h
adds_more first others most old middle new (Err NoMemory) e h = tt

-- where the first ones were too many, so are all
too_many : (first others : List Outline) (most : ℕ) (old : List Outline) → most < length (old ++ first) →
    most < length (old ++ (first ++ others))
too_many first others most old h =
    omega (arith, length-append old first, length-append old (first ++ others), length-append first others)

-- where it stopped at the first ones, it stopped
pub adds_stopped : {A B : Type 0} (first others : List Outline) (most : ℕ) (old new : List Outline) (stop : CutStop)
    (given : Result A CutStop) (result : Result B CutStop) → given ≡ Err stop → result ≡ Err stop →
    AddsFacetsWithin first most old new given → AddsFacetsWithin (first ++ others) most old new result
adds_stopped first others most old new TooMany given result e f h = rw f (too_many first others most old (rw e at h))
adds_stopped first others most old new NoMemory given result e f h = rw f tt
