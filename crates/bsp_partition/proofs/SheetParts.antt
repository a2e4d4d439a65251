-- The parts of trees on a sheet to which nodes are added.
use Rattle.std.proofs.Common.{◌≡◌, Bool, true, false, refl, sym, ap, ap₂, ◌∙◌, subst, arith}
use Rattle.std.proofs.lemmas.Bool.{false≢true}
use Rattle.plane_polygon.specs.Polygons.{Outline}
use Rattle.link_forest.specs.declared.link.Link.{Link}
use Rattle.link_forest.specs.declared.link.Link.TheVariants.{End, To}
use Rattle.link_forest.specs.declared.link.NodeId.{NodeId}
use Rattle.link_forest.specs.Forests.{AddsNode, IsLinkOf}
use Rattle.plane_table.specs.declared.faces.Face.{Face}
use Rattle.plane_table.specs.Faces.{outline_of}
use Rattle.bsp_tree.specs.Trees.{BspTree, node, node_or_leaf}
use Rattle.bsp_tree.specs.Links.{same_leaf}
use Rattle.bsp_tree.specs.Shapes.{leaf_of}
use Rattle.bsp_tree.specs.Growths.{Sheet, tree_on, HasTree}
use Rattle.bsp_tree.proofs.lemmas.Sheets.{longer_itself, longer_twice, still, stood_on, adds_longer, adds_tree}
use Rattle.bsp_tree.proofs.lemmas.Wholes.{leaf_tree}
use Rattle.bsp_tree.specs.declared.part.Part.TheVariants.{Low, High}
use Rattle.bsp_tree.specs.Partitions.{parts_where_across, parts_where_ahead, parts_where_behind, divide}
use Rattle.bsp_partition.specs.Parts.{trees_on, AreLinksOf, HasAddedTree, HasParts, HasSideParts}

-- the tree at a link stands there
pub stands : (sheet : Sheet) (link : Link) → IsLinkOf sheet.nodes link → HasTree sheet link (tree_on sheet link)
stands sheet link h = record { there = h; same = refl }

-- two links of a sheet, and the trees at them
pub links_are_parts : (sheet : Sheet) (links : Link × Link) (parts : BspTree × BspTree) → IsLinkOf sheet.nodes links.0 → IsLinkOf sheet.nodes links.1 →
    trees_on sheet links ≡ parts → HasParts sheet sheet links parts
links_are_parts sheet links parts l h e = subst (HasParts sheet sheet links) e (record { longer = longer_itself sheet; low = stands sheet links.0 l; high = stands sheet links.1 h })

-- a leaf is both its parts
leaf_divided : (side : Bool) (s : Outline) → (leaf_of side, leaf_of side) ≡ divide (leaf_of side) s
leaf_divided true s = refl
leaf_divided false s = refl

pub end_divided : (sheet : Sheet) (side : Bool) (s : Outline) → trees_on sheet (End side, End side) ≡ divide (tree_on sheet (End side)) s
end_divided sheet side s =
    let e = leaf_tree sheet.planes sheet.nodes side in
    ap (λ (t : BspTree). (t, t)) e ∙ leaf_divided side s ∙ sym (ap (λ (t : BspTree). divide t s) e)

pub end_parts : (sheet : Sheet) (side : Bool) (s : Outline) → HasParts sheet sheet (End side, End side) (divide (tree_on sheet (End side)) s)
end_parts sheet side s = links_are_parts sheet (End side, End side) (divide (tree_on sheet (End side)) s) (omega arith) (omega arith) (end_divided sheet side s)

-- two leaves of one kind are put together in that leaf
make_leaf : (s : Outline) (side : Bool) → leaf_of side ≡ node_or_leaf s (leaf_of side) (leaf_of side)
make_leaf s true = refl
make_leaf s false = refl

same_ends : (sheet : Sheet) (side : Bool) (s : Outline) → tree_on sheet (End side) ≡ node_or_leaf s (tree_on sheet (End side)) (tree_on sheet (End side))
same_ends sheet side s =
    let e = leaf_tree sheet.planes sheet.nodes side in e ∙ make_leaf s side ∙ sym (ap (λ (t : BspTree). node_or_leaf s t t) e)

pub same_tree : (sheet : Sheet) (behind ahead : Link) (s : Outline) → same_leaf behind ahead ≡ true →
    tree_on sheet behind ≡ node_or_leaf s (tree_on sheet behind) (tree_on sheet ahead)
same_tree sheet (End true) (End true) s e = same_ends sheet true s
same_tree sheet (End false) (End false) s e = same_ends sheet false s
same_tree sheet (End true) (End false) s e = absurd (false≢true e)
same_tree sheet (End false) (End true) s e = absurd (false≢true e)
same_tree sheet (End side) (To id) s e = absurd (false≢true e)
same_tree sheet (To id) ahead s e = absurd (false≢true e)

pub same_made : (sheet : Sheet) (behind ahead : Link) (s : Outline) → IsLinkOf sheet.nodes behind → same_leaf behind ahead ≡ true →
    HasAddedTree sheet sheet behind (node_or_leaf s (tree_on sheet behind) (tree_on sheet ahead))
same_made sheet behind ahead s h e = record {
  longer = longer_itself sheet;
  stands = record { there = h; same = same_tree sheet behind ahead s e };
}

-- a node that was added
pub node_made : (old new : Sheet) (face : Face) (behind ahead : Link) (id : NodeId) → new.planes ≡ old.planes →
    AddsNode old.nodes new.nodes face behind ahead id →
    HasAddedTree old new (To id) (node (outline_of old.planes face) (tree_on old behind) (tree_on old ahead))
node_made old new face behind ahead id p d = record {
  longer = adds_longer old new face behind ahead id p d;
  stands = adds_tree old new face behind ahead id (tree_on old behind) (tree_on old ahead) p d refl refl;
}

-- the part in which the node's own face lies is made of one part of its side and of its other side
pub low_made : (old middle new : Sheet) (links : Link × Link) (parts : BspTree × BspTree) (made : Link) (s : Outline) (ahead : Link) →
    HasParts old middle links parts → IsLinkOf old.nodes ahead →
    HasAddedTree middle new made (node_or_leaf s (tree_on middle links.0) (tree_on middle ahead)) →
    HasParts old new (made, links.1) (parts_where_behind Low s parts (tree_on old ahead))
low_made old middle new links parts made s ahead h k m = record {
  longer = longer_twice old middle new h.longer m.longer;
  low = record { there = m.stands.there; same = m.stands.same ∙ ap₂ (node_or_leaf s) h.low.same (stood_on old middle ahead h.longer k) };
  high = still middle new links.1 parts.1 m.longer h.high;
}

pub high_made : (old middle new : Sheet) (links : Link × Link) (parts : BspTree × BspTree) (made : Link) (s : Outline) (ahead : Link) →
    HasParts old middle links parts → IsLinkOf old.nodes ahead →
    HasAddedTree middle new made (node_or_leaf s (tree_on middle links.1) (tree_on middle ahead)) →
    HasParts old new (links.0, made) (parts_where_behind High s parts (tree_on old ahead))
high_made old middle new links parts made s ahead h k m = record {
  longer = longer_twice old middle new h.longer m.longer;
  low = still middle new links.0 parts.0 m.longer h.low;
  high = record { there = m.stands.there; same = m.stands.same ∙ ap₂ (node_or_leaf s) h.high.same (stood_on old middle ahead h.longer k) };
}

pub low_made_ahead : (old middle new : Sheet) (links : Link × Link) (parts : BspTree × BspTree) (made : Link) (s : Outline) (behind : Link) →
    HasParts old middle links parts → IsLinkOf old.nodes behind →
    HasAddedTree middle new made (node_or_leaf s (tree_on middle behind) (tree_on middle links.0)) →
    HasParts old new (made, links.1) (parts_where_ahead Low s (tree_on old behind) parts)
low_made_ahead old middle new links parts made s behind h k m = record {
  longer = longer_twice old middle new h.longer m.longer;
  low = record { there = m.stands.there; same = m.stands.same ∙ ap₂ (node_or_leaf s) (stood_on old middle behind h.longer k) h.low.same };
  high = still middle new links.1 parts.1 m.longer h.high;
}

pub high_made_ahead : (old middle new : Sheet) (links : Link × Link) (parts : BspTree × BspTree) (made : Link) (s : Outline) (behind : Link) →
    HasParts old middle links parts → IsLinkOf old.nodes behind →
    HasAddedTree middle new made (node_or_leaf s (tree_on middle behind) (tree_on middle links.1)) →
    HasParts old new (links.0, made) (parts_where_ahead High s (tree_on old behind) parts)
high_made_ahead old middle new links parts made s behind h k m = record {
  longer = longer_twice old middle new h.longer m.longer;
  low = still middle new links.0 parts.0 m.longer h.low;
  high = record { there = m.stands.there; same = m.stands.same ∙ ap₂ (node_or_leaf s) (stood_on old middle behind h.longer k) h.high.same };
}

-- two nodes that were added one after the other
pub both_made : (old middle new : Sheet) (first second : Link) (s t : Outline) (links : (Link × Link) × (Link × Link)) →
    AreLinksOf old links →
    HasAddedTree old middle first (node_or_leaf s (tree_on old links.0.0) (tree_on old links.1.0)) →
    HasAddedTree middle new second (node_or_leaf t (tree_on middle links.0.1) (tree_on middle links.1.1)) →
    HasParts old new (first, second) (node_or_leaf s (tree_on old links.0.0) (tree_on old links.1.0), node_or_leaf t (tree_on old links.0.1) (tree_on old links.1.1))
both_made old middle new first second s t links h f g = record {
  longer = longer_twice old middle new f.longer g.longer;
  low = still middle new first (node_or_leaf s (tree_on old links.0.0) (tree_on old links.1.0)) g.longer f.stands;
  high = record {
    there = g.stands.there;
    same = g.stands.same ∙ ap₂ (node_or_leaf t) (stood_on old middle links.0.1 f.longer h.low_ahead) (stood_on old middle links.1.1 f.longer h.high_ahead);
  };
}

-- the parts of both sides, one after the other
pub sides_parted : (old middle new : Sheet) (behind ahead : Link) (low high : Link × Link) (parts others : BspTree × BspTree) →
    HasParts old middle low parts → HasParts middle new high others → HasSideParts old new (low, high) parts others
sides_parted old middle new behind ahead low high parts others h k = record {
  longer = longer_twice old middle new h.longer k.longer;
  low_behind = still middle new low.0 parts.0 k.longer h.low;
  low_ahead = still middle new low.1 parts.1 k.longer h.high;
  high_behind = k.low;
  high_ahead = k.high;
}

pub side_links : (old new : Sheet) (links : (Link × Link) × (Link × Link)) (low high : BspTree × BspTree) → HasSideParts old new links low high → AreLinksOf new links
side_links old new links low high h = record {
  low_behind = h.low_behind.there;
  low_ahead = h.low_ahead.there;
  high_behind = h.high_behind.there;
  high_ahead = h.high_ahead.there;
}

-- the parts of a node by a polygon that is across its plane
pub across_parted : (old middle new : Sheet) (links : (Link × Link) × (Link × Link)) (low high : BspTree × BspTree) (made : Link × Link) (s t : Outline) →
    HasSideParts old middle links low high → HasParts middle new made (parts_where_across s t (trees_on middle links.0) (trees_on middle links.1)) →
    HasParts old new made (parts_where_across s t low high)
across_parted old middle new links low high made s t h m =
    let el = ap₂ (λ (x y : BspTree). (x, y)) h.low_behind.same h.low_ahead.same in
    let eh = ap₂ (λ (x y : BspTree). (x, y)) h.high_behind.same h.high_ahead.same in
    subst (HasParts old new made) (ap₂ (parts_where_across s t) el eh)
    (record { longer = longer_twice old middle new h.longer m.longer; low = m.low; high = m.high })

-- two leaves are both their parts
pub end_sides : (sheet : Sheet) (first second : Bool) (s t : Outline) →
    HasSideParts sheet sheet ((End first, End first), (End second, End second)) (divide (tree_on sheet (End first)) s) (divide (tree_on sheet (End second)) t)
end_sides sheet first second s t =
    let low = end_parts sheet first s in
    let high = end_parts sheet second t in
    record { longer = longer_itself sheet; low_behind = low.low; low_ahead = low.high; high_behind = high.low; high_ahead = high.high }
