-- The solid of a leaf is a chain of nodes, one behind another.
use Rattle.std.proofs.Common.{ℕ, suc, ◌*◌, ◌≤◌, Bool, true, false, if◌then◌else◌, List, [], ◌∷◌, length, arith}
use Rattle.plane_predicate.specs.Space.{Coefficients, opposite_of, is_same}
use Rattle.plane_polygon.specs.Polygons.{Outline, edge_count}
use Rattle.plane_polygon.specs.Parts.{class_of, part_behind, part_ahead}
use Rattle.plane_polygon.specs.Boxes.{box_outline}
use Rattle.plane_polygon.specs.declared.classes.Class.{Class}
use Rattle.plane_polygon.specs.declared.classes.Class.TheVariants.{Behind, Ahead, Across}
use Rattle.bsp_tree.specs.Trees.{BspTree, inside, outside, node, node_or_leaf, half_space}
use Rattle.bsp_tree.specs.Partitions.{divide, parts_by_class}
use Rattle.bsp_boolean.specs.Combined.{combination}
use Rattle.bsp_boolean.specs.LeafSolids.{solid_of_leaf}
use Rattle.off_text.proofs.lemmas.Bounds.Edges.{part_edges, box_edges}
use Rattle.off_text.proofs.lemmas.Bounds.Doubling.{doubled, doubled_more, doubled_least, doubled_later, doubled_twice}

-- how many nodes stand one behind another
abbrev pub nodes : BspTree → ℕ
nodes inside = 0
nodes outside = 0
nodes (node s b a) = suc (nodes b)

-- each node has its like behind it and nothing ahead, and its polygon has at most k edges also after it was
-- cut once by each node behind it, with its edges doubled each time
abbrev pub IsChain : ℕ → BspTree → Type 0
IsChain k inside = Unit {0}
IsChain k outside = Unit {0}
IsChain k (node s b outside) = (doubled (edge_count s) (nodes b) ≤ k) × IsChain k b
IsChain k (node s b inside) = ⊥
IsChain k (node s b (node t c d)) = ⊥

chain_more : (t : BspTree) (j k : ℕ) → j ≤ k → IsChain j t → IsChain k t
chain_more inside j k h c = tt
chain_more outside j k h c = tt
chain_more (node s b outside) j k h c = (omega (arith, c.0), chain_more b j k h c.1)
chain_more (node s b inside) j k h c = absurd c
chain_more (node s b (node t d e)) j k h c = absurd c

-- a node that may be folded to a leaf
made_chain : (s : Outline) (b : BspTree) (k : ℕ) → doubled (edge_count s) (nodes b) ≤ k → IsChain k b →
    IsChain k (node_or_leaf s b outside)
made_chain s inside k h c = (h, tt)
made_chain s outside k h c = tt
made_chain s (node t b a) k h c = (h, c)

made_nodes : (s : Outline) (b : BspTree) → nodes (node_or_leaf s b outside) ≤ suc (nodes b)
made_nodes s inside = omega arith
made_nodes s outside = omega arith
made_nodes s (node t b a) = omega arith

-- the part of a chain behind a plane
record IsPart (k n : ℕ) (r : BspTree) : Type 0 where
  pub chain : IsChain (2 * k) r
  pub few : nodes r ≤ n

outside_part : (k n : ℕ) → IsPart k n outside
outside_part k n = record { chain = tt; few = omega arith }

later_part : (k n : ℕ) (r : BspTree) → IsPart k n r → IsPart k (suc n) r
later_part k n r h = record { chain = h.chain; few = omega (arith, h.few) }

own_part : (k : ℕ) (b : BspTree) → IsChain k b → IsPart k (suc (nodes b)) b
own_part k b c = record { chain = chain_more b k (2 * k) (omega arith) c; few = omega arith }

-- a polygon of twice as many edges at most, and the part of what stands behind it
twice_room : (i j m n k : ℕ) → i ≤ 2 * j → m ≤ n → doubled j n ≤ k → doubled i m ≤ 2 * k
twice_room i j m n k h l r =
    omega (arith, doubled_more m i (2 * j) h, doubled_later m n (2 * j) l, doubled_twice n j)

made_part : (s t : Outline) (r : BspTree) (k n : ℕ) → edge_count s ≤ 2 * edge_count t → doubled (edge_count t) n ≤ k →
    IsPart k n r → IsPart k (suc n) (node_or_leaf s r outside)
made_part s t r k n h l p = record {
  chain = made_chain s r (2 * k) (twice_room (edge_count s) (edge_count t) (nodes r) n k h p.few l) p.chain;
  few = omega (arith, made_nodes s r, p.few);
}

module _ (s t : Outline) (b : BspTree) (k : ℕ) (c : doubled (edge_count t) (nodes b) ≤ k) (d : IsChain k b) where
  row_part : (low low_part : BspTree × BspTree) (x y : Class) →
      IsPart k (nodes b) low.0 → IsPart k (nodes b) low_part.0 →
      IsPart k (suc (nodes b)) (parts_by_class x y s t b outside low (outside, outside) low_part (outside, outside)).0
  row_part low low_part Across Across l p =
      made_part (part_behind t s.plane) t low_part.0 k (nodes b) (part_edges t s.plane) c p
  row_part low low_part Behind Behind l p = made_part t t low.0 k (nodes b) (omega arith) c l
  row_part low low_part Behind Ahead l p = later_part k (nodes b) low.0 l
  row_part low low_part Ahead Behind l p =
      made_part t t b k (nodes b) (omega arith) c
      (record { chain = chain_more b k (2 * k) (omega arith) d; few = omega arith })
  row_part low low_part Ahead Ahead l p = outside_part k (suc (nodes b))
  row_part low low_part x y l p = own_part k b d

chosen_part : (k n : ℕ) (b a : BspTree) (parts : BspTree × BspTree) (x y : Bool) →
    IsPart k n b → IsPart k n a → IsPart k n parts.0 →
    IsPart k n (if x then (b, a) else if y then (a, b) else parts).0
chosen_part k n b a parts true y h g p = h
chosen_part k n b a parts false true h g p = g
chosen_part k n b a parts false false h g p = p

divided : (t : BspTree) (s : Outline) (k : ℕ) → IsChain k t → IsPart k (nodes t) (divide t s).0
divided inside s k c = record { chain = tt; few = omega arith }
divided outside s k c = outside_part k 0
divided (node t b inside) s k c = absurd c
divided (node t b (node u d e)) s k c = absurd c
divided (node t b outside) s k c =
    let q = t.plane in
    chosen_part k (suc (nodes b)) b outside
    (parts_by_class (class_of s q) (class_of t s.plane) s t b outside (divide b s) (divide outside s)
    (divide b (part_behind s q)) (divide outside (part_ahead s q)))
    (is_same q s.plane) (is_same q (opposite_of s.plane))
    (own_part k b c.1) (outside_part k (suc (nodes b)))
    (row_part s t b k c.0 c.1 (divide b s) (divide b (part_behind s q)) (class_of s q) (class_of t s.plane)
    (divided b s k c.1) (divided b (part_behind s q) k c.1))

-- the solid of n planes
pub record IsOfPlanes (n : ℕ) (t : BspTree) : Type 0 where
  pub chain : IsChain (doubled 16 n) t
  pub few : nodes t ≤ n

one_more : (m : Coefficients) (n : ℕ) (t : BspTree) → IsOfPlanes n t →
    IsOfPlanes (suc n) (combination false (half_space m) t)
one_more m n inside h = record {
  chain = (omega (arith, box_edges m, doubled_least (suc n) 16), tt);
  few = omega arith;
}
one_more m n outside h = record { chain = tt; few = omega arith }
one_more m n (node t b a) h =
    let s = box_outline m in
    let parts = divide (node t b a) s in
    let part = divided (node t b a) s (doubled 16 n) h.chain in
    let edges = doubled_more (nodes parts.0) (edge_count s) 16 (box_edges m) in
    let cuts = doubled_later (nodes parts.0) (suc n) 16 (omega (arith, part.few, h.few)) in
    let room : 2 * doubled 16 n ≤ doubled 16 (suc n) = omega (arith, doubled_twice n 16) in record {
      chain = made_chain s parts.0 (doubled 16 (suc n)) (omega (arith, edges, cuts))
          (chain_more parts.0 (2 * doubled 16 n) (doubled 16 (suc n)) room part.chain);
      few = omega (arith, made_nodes s parts.0, part.few, h.few);
    }

pub of_planes : (planes : List Coefficients) → IsOfPlanes (length planes) (solid_of_leaf planes)
of_planes [] = record { chain = tt; few = omega arith }
of_planes (m ∷ []) = one_more m 0 inside (record { chain = tt; few = omega arith })
of_planes (m ∷ n ∷ planes) = one_more m (suc (length planes)) (solid_of_leaf (n ∷ planes)) (of_planes (n ∷ planes))
