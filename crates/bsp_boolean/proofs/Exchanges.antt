-- Merges of trees with their leaves exchanged.
use Rattle.std.proofs.Common.{◌≡◌, ◌<◌, ◌≤◌, arith, length, Bool, true, false, if◌then◌else◌, not, refl, sym, ap, ap₂, ◌∙◌}
use Rattle.std.proofs.lemmas.Bool.{false≢true, true≢false}
use Rattle.plane_predicate.specs.Space.{opposite_of, is_same}
use Rattle.plane_polygon.specs.Polygons.{Outline}
use Rattle.plane_polygon.specs.declared.classes.Class.{Class}
use Rattle.plane_polygon.specs.declared.classes.Class.TheVariants.{Behind, Ahead, On, Across}
use Rattle.plane_polygon.specs.Parts.{class_of, part_ahead, part_behind}
use Rattle.csg_tree.specs.declared.op.Op.{Op}
use Rattle.csg_tree.specs.declared.op.Op.TheVariants.{Union, Intersection, Difference}
use Rattle.bsp_tree.specs.Trees.{BspTree, inside, outside, node, node_or_leaf, complement, size}
use Rattle.link_forest.specs.declared.link.Link.{Link}
use Rattle.link_forest.specs.declared.link.Link.TheVariants.{End, To}
use Rattle.link_forest.specs.declared.link.NodeId.{NodeId}
use Rattle.link_forest.specs.Forests.{AreLinked, IsNode}
use Rattle.plane_table.specs.declared.faces.Face.{Face}
use Rattle.plane_table.specs.Faces.{outline_of}
use Rattle.bsp_tree.proofs.lemmas.Sheets.{node_shown}
use Rattle.bsp_tree.proofs.lemmas.Growths.{is_fork, make_size}
use Rattle.bsp_tree.specs.Links.{is_alike, exchanged_leaf}
use Rattle.bsp_tree.specs.Shapes.{leaf_of}
use Rattle.bsp_tree.specs.Growths.{Sheet, tree_on, with_sides_exchanged}
use Rattle.bsp_tree.proofs.lemmas.Wholes.{leaf_tree, end_exchanged}
use Rattle.bsp_tree.specs.Partitions.{divide, parts_by_class}
use Rattle.bsp_boolean.specs.Combined.{combination}
use Rattle.bsp_boolean.specs.Merges.{merge_of}
use Rattle.bsp_boolean.specs.Branches.{inside_decides, exchanges_right_sides}

-- both parts with their leaves exchanged
abbrev pub both : BspTree × BspTree → BspTree × BspTree
both parts = (complement parts.0, complement parts.1)

make_complement : (s : Outline) (b a : BspTree) → node_or_leaf s (complement b) (complement a) ≡ complement (node_or_leaf s b a)
make_complement s inside inside = refl
make_complement s inside outside = refl
make_complement s inside (node t c d) = refl
make_complement s outside inside = refl
make_complement s outside outside = refl
make_complement s outside (node t c d) = refl
make_complement s (node t c d) a = refl

pairs : {x y u v : BspTree} → x ≡ u → y ≡ v → ◌≡◌ {A = BspTree × BspTree} (x, y) (u, v)
pairs {x} {y} {u} {v} e f = ap₂ (λ (p q : BspTree). (p, q)) e f

-- the rows of parts whose leaves are exchanged
rows_complement : (first second : Class) (s t : Outline) (b a : BspTree) (low high low_part high_part : BspTree × BspTree) →
    parts_by_class first second s t (complement b) (complement a) (both low) (both high) (both low_part) (both high_part)
    ≡ both (parts_by_class first second s t b a low high low_part high_part)
rows_complement Across Across s t b a low high low_part high_part =
    pairs (make_complement (part_behind t s.plane) low_part.0 high_part.0) (make_complement (part_ahead t s.plane) low_part.1 high_part.1)
rows_complement Behind Behind s t b a low high low_part high_part = pairs (make_complement t low.0 a) refl
rows_complement Behind Ahead s t b a low high low_part high_part = pairs refl (make_complement t low.1 a)
rows_complement Ahead Behind s t b a low high low_part high_part = pairs (make_complement t b high.0) refl
rows_complement Ahead Ahead s t b a low high low_part high_part = pairs refl (make_complement t b high.1)
rows_complement Across Behind s t b a low high low_part high_part = refl
rows_complement Across Ahead s t b a low high low_part high_part = refl
rows_complement Across On s t b a low high low_part high_part = refl
rows_complement Behind Across s t b a low high low_part high_part = refl
rows_complement Behind On s t b a low high low_part high_part = refl
rows_complement Ahead Across s t b a low high low_part high_part = refl
rows_complement Ahead On s t b a low high low_part high_part = refl
rows_complement On Behind s t b a low high low_part high_part = refl
rows_complement On Ahead s t b a low high low_part high_part = refl
rows_complement On On s t b a low high low_part high_part = refl
rows_complement On Across s t b a low high low_part high_part = refl

choose : (x : Bool) (p q u v : BspTree × BspTree) → p ≡ both u → q ≡ both v → (if x then p else q) ≡ both (if x then u else v)
choose true p q u v e f = e
choose false p q u v e f = f

-- the parts of a tree whose leaves are exchanged are its parts with theirs exchanged
pub divide_complement : (t : BspTree) (s : Outline) → divide (complement t) s ≡ both (divide t s)
divide_complement inside s = refl
divide_complement outside s = refl
divide_complement (node t b a) s =
    choose (is_same t.plane s.plane) _ _ _ _ refl
    (choose (is_same t.plane (opposite_of s.plane)) _ _ _ _ refl
    (ap₂ (λ (low high : BspTree × BspTree). parts_by_class (class_of s t.plane) (class_of t s.plane) s t (complement b) (complement a) low high (divide (complement b) (part_behind s t.plane)) (divide (complement a) (part_ahead s t.plane))) (divide_complement b s) (divide_complement a s)
    ∙ ap₂ (λ (low high : BspTree × BspTree). parts_by_class (class_of s t.plane) (class_of t s.plane) s t (complement b) (complement a) (both (divide b s)) (both (divide a s)) low high) (divide_complement b (part_behind s t.plane)) (divide_complement a (part_ahead s t.plane))
    ∙ rows_complement (class_of s t.plane) (class_of t s.plane) s t b a (divide b s) (divide a s) (divide b (part_behind s t.plane)) (divide a (part_ahead s t.plane))))

-- both parts, exchanged or not
pub divide_exchanged : (turn : Bool) (t : BspTree) (s : Outline) → divide (with_sides_exchanged turn t) s ≡ (with_sides_exchanged turn (divide t s).0, with_sides_exchanged turn (divide t s).1)
divide_exchanged true t s = divide_complement t s
divide_exchanged false t s = refl

-- the merge, by whether the leaf inside decides and whether the right tree's leaves are exchanged
pub merged_is : (op : Op) (left right : BspTree) → merge_of op left right ≡ combination (inside_decides op) left (with_sides_exchanged (exchanges_right_sides op) right)
merged_is Union left right = refl
merged_is Intersection left right = refl
merged_is Difference left right = refl

-- which of two leaves decides
same_side : (x y : Bool) → is_alike x y ≡ true → x ≡ y
same_side true true e = refl
same_side false false e = refl
same_side true false e = absurd (false≢true e)
same_side false true e = absurd (false≢true e)

other_side : (x y : Bool) → is_alike x y ≡ false → x ≡ not y
other_side true true e = absurd (true≢false e)
other_side false false e = absurd (true≢false e)
other_side true false e = refl
other_side false true e = refl

left_decides : (d : Bool) (r : BspTree) → combination d (leaf_of d) r ≡ leaf_of d
left_decides true r = refl
left_decides false r = refl

left_gives : (d : Bool) (r : BspTree) → combination d (leaf_of (not d)) r ≡ r
left_gives true r = refl
left_gives false r = refl

right_decides : (d : Bool) (l : BspTree) → combination d l (leaf_of d) ≡ leaf_of d
right_decides true inside = refl
right_decides true outside = refl
right_decides true (node s b a) = refl
right_decides false inside = refl
right_decides false outside = refl
right_decides false (node s b a) = refl

right_gives : (d : Bool) (l : BspTree) → combination d l (leaf_of (not d)) ≡ l
right_gives true inside = refl
right_gives true outside = refl
right_gives true (node s b a) = refl
right_gives false inside = refl
right_gives false outside = refl
right_gives false (node s b a) = refl

-- the leaf at an end of the left tree decides, or gives the right tree
pub end_decides : (sheet : Sheet) (side d : Bool) (r : BspTree) → is_alike side d ≡ true → combination d (tree_on sheet (End side)) r ≡ leaf_of side
end_decides sheet side d r e =
    let same = same_side side d e in
    ap (λ (t : BspTree). combination d t r) (leaf_tree sheet.planes sheet.nodes side ∙ ap leaf_of same) ∙ left_decides d r ∙ sym (ap leaf_of same)

pub end_gives : (sheet : Sheet) (side d : Bool) (r : BspTree) → is_alike side d ≡ false → combination d (tree_on sheet (End side)) r ≡ r
end_gives sheet side d r e =
    ap (λ (t : BspTree). combination d t r) (leaf_tree sheet.planes sheet.nodes side ∙ ap leaf_of (other_side side d e)) ∙ left_gives d r

-- the same of an end of the right tree, whose leaves may be exchanged
pub right_end_decides : (sheet : Sheet) (side turn d : Bool) (l : BspTree) → is_alike (exchanged_leaf side turn) d ≡ true →
    combination d l (with_sides_exchanged turn (tree_on sheet (End side))) ≡ leaf_of d
right_end_decides sheet side turn d l e =
    ap (combination d l) (end_exchanged sheet.planes sheet.nodes side turn ∙ ap leaf_of (same_side (exchanged_leaf side turn) d e)) ∙ right_decides d l

pub right_end_gives : (sheet : Sheet) (side turn d : Bool) (l : BspTree) → is_alike (exchanged_leaf side turn) d ≡ false →
    combination d l (with_sides_exchanged turn (tree_on sheet (End side))) ≡ l
right_end_gives sheet side turn d l e =
    ap (combination d l) (end_exchanged sheet.planes sheet.nodes side turn ∙ ap leaf_of (other_side (exchanged_leaf side turn) d e)) ∙ right_gives d l

-- two nodes: the left one's polygon divides the right tree
pub nodes_combined : (d turn : Bool) (s t : Outline) (b a c e right : BspTree) → right ≡ node t c e →
    combination d (node s b a) (with_sides_exchanged turn right)
    ≡ node_or_leaf s (combination d b (with_sides_exchanged turn (divide right s).0)) (combination d a (with_sides_exchanged turn (divide right s).1))
nodes_combined d turn s t b a c e right same =
    ap (λ (r : BspTree). combination d (node s b a) (with_sides_exchanged turn r)) same ∙ of_node d turn s t b a c e
    ∙ sym (ap (λ (r : BspTree). node_or_leaf s (combination d b (with_sides_exchanged turn (divide r s).0)) (combination d a (with_sides_exchanged turn (divide r s).1))) same)
  where
    of_node : (d turn : Bool) (s t : Outline) (b a c e : BspTree) → combination d (node s b a) (with_sides_exchanged turn (node t c e))
        ≡ node_or_leaf s (combination d b (with_sides_exchanged turn (divide (node t c e) s).0)) (combination d a (with_sides_exchanged turn (divide (node t c e) s).1))
    of_node d true s t b a c e = ap (λ (p : BspTree × BspTree). node_or_leaf s (combination d b p.0) (combination d a p.1)) (divide_exchanged true (node t c e) s)
    of_node d false s t b a c e = refl

-- two nodes on two sheets
pub node_merged : (d turn : Bool) (left right : Sheet) (first second : NodeId) (face : Face) (behind ahead : Link) →
    IsNode left.nodes first face behind ahead → AreLinked right.nodes → second.index < length right.nodes →
    combination d (tree_on left (To first)) (with_sides_exchanged turn (tree_on right (To second)))
    ≡ node_or_leaf (outline_of left.planes face)
    (combination d (tree_on left behind) (with_sides_exchanged turn (divide (tree_on right (To second)) (outline_of left.planes face)).0))
    (combination d (tree_on left ahead) (with_sides_exchanged turn (divide (tree_on right (To second)) (outline_of left.planes face)).1))
node_merged d turn left right first second face behind ahead n l below =
    let fork = is_fork right.planes right.nodes second l below in
    ap (λ (t : BspTree). combination d t (with_sides_exchanged turn (tree_on right (To second)))) (node_shown left.planes left.nodes first face behind ahead n.tree)
    ∙ nodes_combined d turn (outline_of left.planes face) fork.outline (tree_on left behind) (tree_on left ahead) fork.behind fork.ahead
    (tree_on right (To second)) fork.same

-- a part behind is no larger than the node
pub below_left : (s : Outline) (b a : BspTree) → size b ≤ size (node_or_leaf s b a)
below_left s b a = omega (arith, make_size s b a)
