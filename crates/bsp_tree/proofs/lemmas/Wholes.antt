-- What a solid keeps: where it is a leaf, where it has grown, and where its parts are given.
use Rattle.std.proofs.Common.{◌≡◌, ℕ, ◌+◌, ◌-◌, ◌^◌, ◌<◌, ◌++◌, ◌∷◌, [], Bool, true, false, Some, List, length, take, slice_get, get_or, min, refl, sym, ap, ap₂, ◌∙◌, arith, add-one}
use Rattle.std.proofs.lemmas.List.{length_push}
use Rattle.std.proofs.Math.Seq.{take-suc}
use Rattle.std.proofs.lemmas.Option.{slice_get_within, slice_get-get_or}
use Rattle.plane_predicate.specs.Space.{Coefficients, Coordinates}
use Rattle.link_forest.specs.declared.link.Link.{Link}
use Rattle.link_forest.specs.declared.link.Link.TheVariants.{End, To}
use Rattle.link_forest.specs.declared.link.NodeId.{NodeId}
use Rattle.link_forest.specs.declared.forest.Entry.{Entry}
use Rattle.link_forest.specs.Forests.{entry, node_id, AddsNode, itself}
use Rattle.link_forest.proofs.lemmas.Longer.{tree_of_end}
use Rattle.plane_table.specs.declared.faces.Face.{Face}
use Rattle.plane_table.specs.Tables.{HasNoTwoAlike}
use Rattle.plane_table.specs.declared.numbering.OwnFace.{OwnFace}
use Rattle.plane_table.specs.Joins.{IsOwnFaceOf}
use Rattle.plane_polygon.specs.Polygons.{Outline}
use Rattle.bsp_tree.specs.Trees.{BspTree, inside, outside, node, size, walk}
use Rattle.bsp_tree.specs.Shapes.{leaf_of, tree_of_branch, tree_at_link, tree_of, AreFacesOver, IsWholeSolid, SolidParts}
use Rattle.bsp_tree.specs.Kept.{KeepsItsSize}
use Rattle.bsp_tree.specs.Growths.{Sheet, tree_on, with_sides_exchanged, HasGrownWhole}
use Rattle.bsp_tree.specs.Links.{exchanged_leaf}
use Rattle.bsp_tree.proofs.lemmas.SheetFaces.{faces_more}

pub grown_kept : (planes : List Coefficients) (nodes : List (Entry Face)) (root : Link) (kept : ℕ) →
    HasNoTwoAlike planes → AreFacesOver planes nodes → HasGrownWhole (record { planes = planes; nodes = nodes }) root kept →
    kept < 2 ^ 64 → KeepsItsSize (record { planes = planes; nodes = nodes; root = root }) kept
unfolding tree_of
grown_kept planes nodes root kept apart faces g small = record {
  whole = record { apart = apart; faces = faces; root = g.there; reached = g.reached };
  size_is = omega (arith, g.size_is);
}

pub whole_kept : (solid : SolidParts) (kept : ℕ) → IsWholeSolid solid →
    kept ≡ min (size (tree_at_link solid.planes solid.nodes solid.root)) (2 ^ 64 - 1) → KeepsItsSize solid kept
unfolding tree_of
whole_kept solid kept h e = record { whole = h; size_is = e }

-- the tree of a leaf
pub leaf_tree : (planes : List Coefficients) (nodes : List (Entry Face)) (side : Bool) → tree_at_link planes nodes (End side) ≡ leaf_of side
leaf_tree planes nodes side = ap (tree_of_branch planes) (tree_of_end nodes side)

leaf_size : (side : Bool) → size (leaf_of side) ≡ 0
leaf_size true = refl
leaf_size false = refl

pub end_size : (planes : List Coefficients) (nodes : List (Entry Face)) (side : Bool) → size (tree_at_link planes nodes (End side)) ≡ 0
end_size planes nodes side = ap size (leaf_tree planes nodes side) ∙ leaf_size side

pub leaf_kept : (side : Bool) → KeepsItsSize (record { planes = []; nodes = []; root = End side }) 0
unfolding tree_of
leaf_kept side = record {
  whole = record {
    apart = record { apart = λ i j hi hj d. absurd (omega arith) };
    faces = record { each = λ index entry there. absurd (omega (arith, slice_get_within [] index entry there)) };
    root = omega arith;
    reached = λ id from below. absurd (omega arith);
  };
  size_is = omega (arith, end_size [] [] side);
}

pub leaf_stands : (side : Bool) → tree_of (record { planes = []; nodes = []; root = End side }) ≡ leaf_of side
unfolding tree_of
leaf_stands side = leaf_tree [] [] side

-- one item more of a list
pub one_more : {A : Type 0} (xs : List A) (i : ℕ) (x : A) → slice_get xs i ≡ Some x → take i xs ++ x ∷ [] ≡ take (i + 1) xs
one_more xs i x there =
    let within = slice_get_within xs i x there in
    let both : Some x ≡ Some (get_or xs i x) = sym there ∙ slice_get-get_or xs i x within in
    let read : x ≡ get_or xs i x = cc in
    sym (ap (λ (n : ℕ). take n xs) (add-one i) ∙ take-suc xs i x within ∙ ap (λ y. take i xs ++ y ∷ []) (sym read))

-- numbers of nodes are the same where they are the same number
pub same_id : (a b : NodeId) → a.index ≡ b.index → a ≡ b
same_id a b e = ap node_id e

-- nodes of the same parts
pub node_same : {s t : Outline} {b c a d : BspTree} → s ≡ t → b ≡ c → a ≡ d → node s b a ≡ node t c d
node_same {s} {t} {b} {c} {a} {d} e eb ea = ap₂ (λ (u : Outline) (v : BspTree). node u v a) e eb ∙ ap (node t c) ea

-- a solid of one node with two leaves
pub one_node_whole : (s : Outline) (own : OwnFace) (old new : List (Entry Face)) (id : NodeId) → IsOwnFaceOf s own → old ≡ [] →
    AddsNode old new own.face (End true) (End false) id →
    IsWholeSolid (record { planes = own.planes.items; nodes = new; root = To id })
one_node_whole s own old new id h none d =
    let none_faces : AreFacesOver own.planes.items old = record { each = λ index entry there. absurd (omega (arith, slice_get_within old index entry there, ap length none)) } in
    record {
      apart = h.apart;
      faces = faces_more own.planes.items old new own.face (End true) (End false) id none_faces h.face d;
      root = d.link;
      reached = λ other from below.
          let count : length new ≡ length old + 1 = rw d.nodes (length_push old (entry own.face (End true) (End false))) in
          let same : other ≡ id = same_id other id (omega (arith, d.number, ap length none)) in
          rw same (itself id);
    }

pub one_node_tree : (s : Outline) (own : OwnFace) (old new : List (Entry Face)) (id : NodeId) (solid : SolidParts) → IsOwnFaceOf s own → old ≡ [] →
    AddsNode old new own.face (End true) (End false) id →
    solid ≡ record { planes = own.planes.items; nodes = new; root = To id } → tree_of solid ≡ node s inside outside
unfolding tree_of
one_node_tree s own old new id solid h none d e =
    ap (λ (t : SolidParts). tree_at_link t.planes t.nodes t.root) e
    ∙ ap (tree_of_branch own.planes.items) d.tree
    ∙ node_same h.outline (leaf_tree own.planes.items old true) (leaf_tree own.planes.items old false)

-- a whole solid's tree is the one on its sheet
pub whole_tree : (sheet : Sheet) (planes : List Coefficients) (nodes : List (Entry Face)) (root : Link) (solid : SolidParts) →
    solid ≡ record { planes = planes; nodes = nodes; root = root } → planes ≡ sheet.planes → nodes ≡ sheet.nodes →
    tree_of solid ≡ tree_on sheet root
unfolding tree_of
whole_tree sheet planes nodes root solid e p n =
    ap (λ (t : SolidParts). tree_at_link t.planes t.nodes t.root) e
    ∙ ap₂ (λ (ps : List Coefficients) (ns : List (Entry Face)). tree_at_link ps ns root) p n

-- the walk of a leaf
leaf_walk : (side : Bool) (p : Coordinates) → side ≡ walk (leaf_of side) p
leaf_walk true p = refl
leaf_walk false p = refl

pub end_walk : (planes : List Coefficients) (nodes : List (Entry Face)) (side : Bool) (p : Coordinates) → side ≡ walk (tree_at_link planes nodes (End side)) p
end_walk planes nodes side p = leaf_walk side p ∙ sym (ap (λ (t : BspTree). walk t p) (leaf_tree planes nodes side))

-- the leaf that stands where leaves are exchanged
pub end_exchanged : (planes : List Coefficients) (nodes : List (Entry Face)) (side turn : Bool) →
    with_sides_exchanged turn (tree_at_link planes nodes (End side)) ≡ leaf_of (exchanged_leaf side turn)
end_exchanged planes nodes side turn = ap (with_sides_exchanged turn) (leaf_tree planes nodes side) ∙ leaf_exchanged side turn
  where
    leaf_exchanged : (side turn : Bool) → with_sides_exchanged turn (leaf_of side) ≡ leaf_of (exchanged_leaf side turn)
    leaf_exchanged true true = refl
    leaf_exchanged false true = refl
    leaf_exchanged true false = refl
    leaf_exchanged false false = refl

-- a node whose leaves are exchanged
pub node_exchanged : (s : Outline) (b a : BspTree) (turn : Bool) → with_sides_exchanged turn (node s b a) ≡ node s (with_sides_exchanged turn b) (with_sides_exchanged turn a)
node_exchanged s b a true = refl
node_exchanged s b a false = refl
