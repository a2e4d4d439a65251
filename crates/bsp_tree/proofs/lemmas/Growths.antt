-- Solids that grow: leaves, nodes, and what stops them.
use Rattle.std.proofs.lemmas.Bool.{cases_lt, false≢true}
use Rattle.std.proofs.Common.{◌≡◌, ◌⊎◌, inl, inr, ℕ, ◌+◌, ◌<◌, ◌≤◌, Bool, true, false, List, [], ◌∷◌, length, slice_get, Some, zero, suc, Err, refl, sym, ap, ap₂, ◌∙◌, subst, arith}
use Rattle.std.proofs.lemmas.List.{length-map}
use Rattle.plane_predicate.specs.Space.{Coefficients}
use Rattle.plane_polygon.specs.Polygons.{Outline}
use Rattle.link_forest.specs.declared.link.Link.{Link}
use Rattle.link_forest.specs.declared.link.NodeId.{NodeId}
use Rattle.link_forest.specs.declared.link.Link.TheVariants.{End, To}
use Rattle.link_forest.specs.declared.forest.Entry.{Entry}
use Rattle.link_forest.specs.Forests.{AddsNode, AreLinked, IsLinkOf}
use Rattle.link_forest.proofs.lemmas.Longer.{is_node}
use Rattle.link_forest.proofs.lemmas.Reaching.{ends_reach_none, reached_by_added}
use Rattle.plane_table.specs.declared.faces.Face.{Face}
use Rattle.plane_table.specs.Tables.{plane_named}
use Rattle.plane_table.specs.Faces.{outline_of, face_size}
use Rattle.bsp_tree.specs.Trees.{BspTree, inside, outside, node, node_or_leaf, size}
use Rattle.bsp_tree.specs.Links.{same_leaf}
use Rattle.bsp_tree.specs.Shapes.{leaf_of, tree_of_branch, tree_at_link}
use Rattle.bsp_tree.specs.Growths.{Sheet, SolidGrowth, tree_on, HasTree, HasGrown, GrowsBy}
use Rattle.bsp_tree.specs.declared.growing.GrowStop.{GrowStop}
use Rattle.bsp_tree.specs.declared.growing.GrowStop.TheVariants.{TooBig, NoMemory}
use Rattle.bsp_tree.proofs.lemmas.Sheets.{longer_itself, longer_twice, still, stood_on, leaf_stands, adds_longer, adds_tree}

-- a leaf takes no node
leaf_size : (side : Bool) → size (leaf_of side) ≡ 0
leaf_size true = refl
leaf_size false = refl

pub leaf_grows : (growth : SolidGrowth) (side : Bool) → HasGrown growth growth (End side) (leaf_of side)
leaf_grows growth side = record {
  longer = longer_itself growth.sheet;
  stands = leaf_stands growth.sheet side;
  reached = λ id from below. absurd (omega arith);
  size = omega (arith, leaf_size side);
  most = refl;
}

-- a node over two trees that have grown
pub node_grows : (start middle old new : SolidGrowth) (face : Face) (behind ahead : Link) (b a : BspTree) (id : NodeId) →
    HasGrown start middle behind b → HasGrown middle old ahead a →
    AddsNode old.sheet.nodes new.sheet.nodes face behind ahead id → new.sheet.planes ≡ old.sheet.planes →
    new.size ≡ old.size + face_size face → new.most ≡ old.most →
    HasGrown start new (To id) (node (outline_of old.sheet.planes face) b a)
node_grows start middle old new face behind ahead b a id hb ha d p s m = record {
  longer = longer_twice start.sheet middle.sheet new.sheet hb.longer (longer_twice middle.sheet old.sheet new.sheet ha.longer (adds_longer old.sheet new.sheet face behind ahead id p d));
  stands = adds_tree old.sheet new.sheet face behind ahead id b a p d
      (stood_on middle.sheet old.sheet behind ha.longer hb.stands.there ∙ hb.stands.same) ha.stands.same;
  reached = reached_by_added (length start.sheet.nodes) middle.sheet.nodes old.sheet.nodes new.sheet.nodes face behind ahead id
      ha.longer.extends hb.reached ha.reached d;
  size = omega (arith, s, ha.size, hb.size, length-map face.edges (plane_named old.sheet.planes));
  most = m ∙ ha.most ∙ hb.most;
}

-- where the node passes the limit
pub node_stops : (start middle old : SolidGrowth) (face : Face) (behind ahead : Link) (b a : BspTree) →
    HasGrown start middle behind b → HasGrown middle old ahead a → old.most < old.size + face_size face →
    start.most < start.size + size (node (outline_of old.sheet.planes face) b a)
node_stops start middle old face behind ahead b a hb ha h =
    omega (arith, hb.size, ha.size, hb.most, ha.most, length-map face.edges (plane_named old.sheet.planes))

-- two leaves of one kind are that leaf, and no node was added for them
leaf_tree : (sheet : Sheet) (side : Bool) (t : BspTree) → HasTree sheet (End side) t → t ≡ leaf_of side
leaf_tree sheet side t h = sym h.same ∙ (leaf_stands sheet side).same

make_leaf : (s : Outline) (side : Bool) → node_or_leaf s (leaf_of side) (leaf_of side) ≡ leaf_of side
make_leaf s true = refl
make_leaf s false = refl

leaves_grow : (start middle old : SolidGrowth) (side : Bool) (s : Outline) (b a : BspTree) →
    HasGrown start middle (End side) b → HasGrown middle old (End side) a →
    HasGrown start old (End side) (node_or_leaf s b a)
leaves_grow start middle old side s b a hb ha =
    let eb = leaf_tree middle.sheet side b hb.stands in
    let ea = leaf_tree old.sheet side a ha.stands in
    let whole : node_or_leaf s b a ≡ leaf_of side = ap₂ (node_or_leaf s) eb ea ∙ make_leaf s side in
    subst (λ (t : BspTree). HasGrown start old (End side) t) (sym whole) (record {
      longer = longer_twice start.sheet middle.sheet old.sheet hb.longer ha.longer;
      stands = leaf_stands old.sheet side;
      reached = λ id from below. elim (cases_lt id.index (length middle.sheet.nodes)) [
        | inl low ↦ absurd (ends_reach_none middle.sheet.nodes side id (hb.reached id from low))
        | inr high ↦ absurd (ends_reach_none old.sheet.nodes side id (ha.reached id high below))
      ];
      size = omega (arith, ha.size, hb.size, ap size eb, ap size ea, leaf_size side);
      most = ha.most ∙ hb.most;
    })

pub same_grows : (start middle old : SolidGrowth) (behind ahead : Link) (s : Outline) (b a : BspTree) →
    same_leaf behind ahead ≡ true → HasGrown start middle behind b → HasGrown middle old ahead a →
    HasGrown start old behind (node_or_leaf s b a)
same_grows start middle old (End true) (End true) s b a e hb ha = leaves_grow start middle old true s b a hb ha
same_grows start middle old (End false) (End false) s b a e hb ha = leaves_grow start middle old false s b a hb ha
same_grows start middle old (End true) (End false) s b a e hb ha = absurd (false≢true e)
same_grows start middle old (End false) (End true) s b a e hb ha = absurd (false≢true e)
same_grows start middle old (End side) (To id) s b a e hb ha = absurd (false≢true e)
same_grows start middle old (To id) ahead s b a e hb ha = absurd (false≢true e)

-- other trees are put together in a node
make_node : (s : Outline) (b a : BspTree) → (node_or_leaf s b a ≡ node s b a) ⊎ ((side : Bool) × (b ≡ leaf_of side) × (a ≡ leaf_of side))
make_node s inside inside = inr (true, refl, refl)
make_node s outside outside = inr (false, refl, refl)
make_node s inside outside = inl refl
make_node s outside inside = inl refl
make_node s inside (node t c d) = inl refl
make_node s outside (node t c d) = inl refl
make_node s (node t c d) a = inl refl

-- a node is as large as its two trees together, and larger
pub make_size : (s : Outline) (b a : BspTree) → size b + size a ≤ size (node_or_leaf s b a)
make_size s inside inside = omega arith
make_size s outside outside = omega arith
make_size s inside outside = omega arith
make_size s outside inside = omega arith
make_size s inside (node t c d) = omega arith
make_size s outside (node t c d) = omega arith
make_size s (node t c d) inside = omega arith
make_size s (node t c d) outside = omega arith
make_size s (node t c d) (node u e f) = omega arith

-- what stops a part stops the whole
pub stops : (old new other : SolidGrowth) (part whole : BspTree) (stop : GrowStop) → size part ≤ size whole →
    GrowsBy old new part (Err stop) → GrowsBy old other whole (Err stop)
stops old new other part whole TooBig within h = omega arith
stops old new other part whole NoMemory within h = tt

pub stops_after : (old middle new other : SolidGrowth) (link : Link) (b a whole : BspTree) (stop : GrowStop) →
    size b + size a ≤ size whole → HasGrown old middle link b → GrowsBy middle new a (Err stop) →
    GrowsBy old other whole (Err stop)
stops_after old middle new other link b a whole TooBig within hb h = omega (arith, hb.size, hb.most)
stops_after old middle new other link b a whole NoMemory within hb h = tt

not_inside : inside ≡ outside → ⊥
not_inside e = cc

same_itself : (side : Bool) → same_leaf (End side) (End side) ≡ true
same_itself true = refl
same_itself false = refl

leaf_side : (x y : Bool) → leaf_of y ≡ leaf_of x → x ≡ y
leaf_side true true e = refl
leaf_side false false e = refl
leaf_side true false e = absurd (not_inside (sym e))
leaf_side false true e = absurd (not_inside e)

not_leaf : (s : Outline) (b a : BspTree) (side : Bool) → node s b a ≡ leaf_of side → ⊥
not_leaf s b a true e = cc
not_leaf s b a false e = cc

-- what stands at the number of a node is a node
item : {A : Type 0} (xs : List A) (i : ℕ) → i < length xs → (x : A) × (slice_get xs i ≡ Some x)
item [] i h = absurd (omega arith)
item (x ∷ xs) zero h = (x, refl)
item (x ∷ xs) (suc i) h = item xs i (omega arith)

-- at a node's link a node stands
pub record Fork (t : BspTree) : Type 0 where
  pub outline : Outline
  pub behind : BspTree
  pub ahead : BspTree
  pub same : t ≡ node outline behind ahead

pub is_fork : (planes : List Coefficients) (nodes : List (Entry Face)) (id : NodeId) → AreLinked nodes → id.index < length nodes →
    Fork (tree_at_link planes nodes (To id))
is_fork planes nodes id l below =
    let there = item nodes id.index below in
    let n = is_node nodes id there.0.payload there.0.behind there.0.ahead l there.1 in
    record {
      outline = outline_of planes there.0.payload;
      behind = tree_at_link planes nodes there.0.behind;
      ahead = tree_at_link planes nodes there.0.ahead;
      same = ap (tree_of_branch planes) n.tree;
    }

no_leaf : (planes : List Coefficients) (nodes : List (Entry Face)) (id : NodeId) (side : Bool) → AreLinked nodes → id.index < length nodes →
    tree_at_link planes nodes (To id) ≡ leaf_of side → ⊥
no_leaf planes nodes id side l below e =
    let fork = is_fork planes nodes id l below in not_leaf fork.outline fork.behind fork.ahead side (sym fork.same ∙ e)

-- a link at which a leaf stands is that end
pub leaf_is_end : (sheet : Sheet) (link : Link) (side : Bool) → AreLinked sheet.nodes → HasTree sheet link (leaf_of side) → link ≡ End side
leaf_is_end sheet (End other) side l h = ap End (leaf_side other side (leaf_tree sheet other (leaf_of side) h))
leaf_is_end sheet (To id) side l h = absurd (no_leaf sheet.planes sheet.nodes id side l (omega (arith, h.there)) h.same)

-- two trees that are no leaves of one kind are put together in a node
pub other_make : (sheet : Sheet) (behind ahead : Link) (s : Outline) → AreLinked sheet.nodes → IsLinkOf sheet.nodes behind → IsLinkOf sheet.nodes ahead →
    same_leaf behind ahead ≡ false → node s (tree_on sheet behind) (tree_on sheet ahead) ≡ node_or_leaf s (tree_on sheet behind) (tree_on sheet ahead)
other_make sheet behind ahead s l kb ka e = elim (make_node s (tree_on sheet behind) (tree_on sheet ahead)) [
  | inl h ↦ sym h
  | inr h ↦
      let eb = leaf_is_end sheet behind h.0 l (record { there = kb; same = h.1 }) in
      let ea = leaf_is_end sheet ahead h.0 l (record { there = ka; same = h.2 }) in
      absurd (false≢true (sym e ∙ ap₂ same_leaf eb ea ∙ same_itself h.0))
]

pub other_grows : (start middle old : SolidGrowth) (behind ahead : Link) (s : Outline) (b a : BspTree) → AreLinked old.sheet.nodes →
    same_leaf behind ahead ≡ false → HasGrown start middle behind b → HasGrown middle old ahead a → node s b a ≡ node_or_leaf s b a
other_grows start middle old behind ahead s b a l e hb ha =
    let there = still middle.sheet old.sheet behind b ha.longer hb.stands in
    sym (ap₂ (node s) there.same ha.stands.same) ∙ other_make old.sheet behind ahead s l there.there ha.stands.there e
    ∙ ap₂ (node_or_leaf s) there.same ha.stands.same
