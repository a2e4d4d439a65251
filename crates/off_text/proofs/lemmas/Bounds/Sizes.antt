-- The size of a chain of nodes, and its facets.
use Rattle.std.proofs.Common.{◌≡◌, ℕ, suc, ◌+◌, ◌*◌, ◌^◌, ◌≤◌, List, [], ◌∷◌, ◌++◌, flat_map, length, length-append, append-nil, append_assoc, refl, sym, ap, ◌∙◌, subst, arith}
use Rattle.std.proofs.lemmas.Nat.{mul-le}
use Rattle.plane_predicate.specs.Space.{Coefficients}
use Rattle.plane_polygon.specs.Polygons.{Outline, edge_count}
use Rattle.plane_polygon.specs.Parts.{class_of, part_behind, part_ahead}
use Rattle.plane_polygon.specs.declared.classes.Class.{Class}
use Rattle.plane_polygon.specs.declared.classes.Class.TheVariants.{Behind, Ahead, On, Across}
use Rattle.bsp_tree.specs.Trees.{BspTree, inside, outside, node, size}
use Rattle.bsp_boolean.specs.LeafSolids.{solid_of_leaf}
use Rattle.facet_cut.specs.Facets.{Piece, pieces_on_sides, pieces, facets_ahead, facets_between, facets_of}
use Rattle.off_text.specs.Texts.{corner_count}
use Rattle.off_text.proofs.lemmas.Bounds.Edges.{part_edges}
use Rattle.off_text.proofs.lemmas.Bounds.Doubling.{doubled, doubled_more, doubled_least, doubled_is}
use Rattle.off_text.proofs.lemmas.Bounds.Chains.{nodes, IsChain, of_planes}

chain_size : (t : BspTree) (k : ℕ) → IsChain k t → size t ≤ nodes t * (1 + k)
chain_size inside k c = omega arith
chain_size outside k c = omega arith
chain_size (node s b inside) k c = absurd c
chain_size (node s b (node t d e)) k c = absurd c
chain_size (node s b outside) k c = omega (arith, chain_size b k c.1, c.0, doubled_least (nodes b) (edge_count s))

-- at most n polygons, with at most k corners together
record AreFew (n k : ℕ) (polygons : List Outline) : Type 0 where
  pub few : length polygons ≤ n
  pub corners : corner_count polygons ≤ k

corner_count-append : (xs ys : List Outline) → corner_count (xs ++ ys) ≡ corner_count xs + corner_count ys
corner_count-append [] ys = omega arith
corner_count-append (s ∷ xs) ys = omega (arith, corner_count-append xs ys)

none : (k : ℕ) → AreFew 1 k []
none k = record { few = omega arith; corners = omega arith }

more_corners : (n j k : ℕ) (xs : List Outline) → j ≤ k → AreFew n j xs → AreFew n k xs
more_corners n j k xs h f = record { few = f.few; corners = omega (arith, f.corners) }

together : (m n j k : ℕ) (xs ys : List Outline) → AreFew m j xs → AreFew n k ys →
    AreFew (m + n) (j + k) (xs ++ ys)
together m n j k xs ys f g = record {
  few = omega (arith, length-append xs ys, f.few, g.few);
  corners = omega (arith, corner_count-append xs ys, f.corners, g.corners);
}

-- what a piece behind gives where nothing is ahead
abbrev front : Piece → List Outline
front q = facets_ahead q.is_inside outside q.part

flat_append : {A B : Type 0} (f : A → List B) (xs ys : List A) →
    flat_map f (xs ++ ys) ≡ flat_map f xs ++ flat_map f ys
flat_append f [] ys = refl
flat_append f (x ∷ xs) ys =
    ap (λ (l : List _). f x ++ l) (flat_append f xs ys)
    ∙ sym (append_assoc (f x) (flat_map f xs) (flat_map f ys))

-- the pieces of a polygon on the sides of a plane give one facet at most, where those behind do
on_sides_front : (c : Class) (k : ℕ) (low high low_part high_part : List Piece) →
    AreFew 1 k (flat_map front low) → AreFew 1 k (flat_map front low_part) → flat_map front high ≡ [] → flat_map front high_part ≡ [] →
    AreFew 1 k (flat_map front (pieces_on_sides c low high low_part high_part))
on_sides_front Behind k low high low_part high_part l p h g = l
on_sides_front On k low high low_part high_part l p h g = l
on_sides_front Ahead k low high low_part high_part l p h g = subst (AreFew 1 k) (sym h) (none k)
on_sides_front Across k low high low_part high_part l p h g =
    let here = flat_map front low_part in
    let whole = flat_append front low_part high_part ∙ ap (λ (xs : List Outline). here ++ xs) g ∙ append-nil here in
    subst (AreFew 1 k) (sym whole) p

-- a polygon has one facet at most, cut once by each node of the chain behind it
chain_front : (t : BspTree) (s : Outline) (k : ℕ) → IsChain k t →
    AreFew 1 (doubled (edge_count s) (nodes t)) (flat_map front (pieces t s))
chain_front inside s k c = record { few = omega arith; corners = omega arith }
chain_front outside s k c = none (edge_count s)
chain_front (node t b inside) s k c = absurd c
chain_front (node t b (node u d e)) s k c = absurd c
chain_front (node t b outside) s k c =
    let room = doubled (2 * edge_count s) (nodes b) in
    let part = part_behind s t.plane in
    on_sides_front (class_of s t.plane) room (pieces b s) (pieces outside s) (pieces b part)
    (pieces outside (part_ahead s t.plane))
    (more_corners 1 (doubled (edge_count s) (nodes b)) room (flat_map front (pieces b s))
    (doubled_more (nodes b) (edge_count s) (2 * edge_count s) (omega arith)) (chain_front b s k c.1))
    (more_corners 1 (doubled (edge_count part) (nodes b)) room (flat_map front (pieces b part))
    (doubled_more (nodes b) (edge_count part) (2 * edge_count s) (part_edges s t.plane)) (chain_front b part k c.1))
    refl refl

chain_facets : (t : BspTree) (k : ℕ) → IsChain k t → AreFew (nodes t) (nodes t * k) (facets_of t)
chain_facets inside k c = record { few = omega arith; corners = omega arith }
chain_facets outside k c = record { few = omega arith; corners = omega arith }
chain_facets (node s b inside) k c = absurd c
chain_facets (node s b (node t d e)) k c = absurd c
chain_facets (node s b outside) k c =
    let here = facets_between b outside s in
    let first = more_corners 1 (doubled (edge_count s) (nodes b)) k here c.0 (chain_front b s k c.1) in
    let all = together 1 (nodes b) k (nodes b * k) here (facets_of b) first (chain_facets b k c.1) in
    subst (AreFew (suc (nodes b)) (suc (nodes b) * k)) (sym (append-nil (here ++ facets_of b)))
    (record { few = omega (arith, all.few); corners = omega (arith, all.corners) })

-- the solid of n planes, and its facets
room_is : (planes : List Coefficients) → doubled 16 (length planes) ≡ 16 * 2 ^ length planes
room_is planes = doubled_is (length planes) 16

pub leaf_size : (planes : List Coefficients) →
    size (solid_of_leaf planes) ≤ length planes * (1 + 16 * 2 ^ length planes)
leaf_size planes =
    let n = length planes in
    let h = of_planes planes in
    subst (λ (k : ℕ). size (solid_of_leaf planes) ≤ n * (1 + k)) (room_is planes)
    (omega (
      arith,
      chain_size (solid_of_leaf planes) (doubled 16 n) h.chain,
      mul-le (nodes (solid_of_leaf planes)) (1 + doubled 16 n) n (1 + doubled 16 n) h.few (omega arith),
    ))

pub leaf_facets : (planes : List Coefficients) → length (facets_of (solid_of_leaf planes)) ≤ length planes
leaf_facets planes =
    let h = of_planes planes in
    omega (arith, (chain_facets (solid_of_leaf planes) (doubled 16 (length planes)) h.chain).few, h.few)

pub leaf_corners : (planes : List Coefficients) →
    corner_count (facets_of (solid_of_leaf planes)) ≤ length planes * (16 * 2 ^ length planes)
leaf_corners planes =
    let n = length planes in
    let h = of_planes planes in
    subst (λ (k : ℕ). corner_count (facets_of (solid_of_leaf planes)) ≤ n * k) (room_is planes)
    (omega (
      arith,
      (chain_facets (solid_of_leaf planes) (doubled 16 n) h.chain).corners,
      mul-le (nodes (solid_of_leaf planes)) (doubled 16 n) n (doubled 16 n) h.few (omega arith),
    ))
