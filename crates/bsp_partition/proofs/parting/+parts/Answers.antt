use Rattle.std.proofs.Common.{◌∙◌, List, sym, ap₂, subst}
use Rattle.std.proofs.lemmas.Result.{IfOk-weaker}
use Rattle.plane_predicate.specs.Space.{Coefficients}
use Rattle.plane_polygon.specs.Polygons.{Outline}
use Rattle.plane_polygon.specs.Parts.{part_ahead, part_behind}
use Rattle.plane_polygon.specs.declared.classes.Class.{Class}
use Rattle.plane_table.specs.Tables.{plane_named}
use Rattle.plane_table.specs.Faces.{outline_of}
use Rattle.plane_table.specs.Cuts.{part_in}
use Rattle.bsp_tree.specs.Trees.{BspTree}
use Rattle.bsp_tree.specs.Growths.{tree_on}
use Rattle.bsp_tree.proofs.lemmas.Sheets.{stood_on}
use Rattle.bsp_tree.specs.Partitions.{parts_where_across, divide, parts_by_class}
use Rattle.bsp_partition.specs.Parts.{parts_off_plane, trees_on, HasParts}
use Rattle.bsp_partition.proofs.SheetParts.{end_parts, sides_parted, across_parted}
use Rattle.bsp_partition.proofs.parting.+parts.Goals as goal

pub add_parts-returns-in-End : goal.add_parts-returns-in-End
add_parts-returns-in-End t c = rw c.in-End.is (end_parts c.args.nodes.now c.in-End.field-0 _)

pub half_parts-returns-in-End : goal.half_parts-returns-in-End
half_parts-returns-in-End t c = rw c.in-End.is (end_parts c.args.nodes.now c.in-End.field-0 _)

pub half_parts-returns-in_ok-part-in-To : goal.half_parts-returns-in_ok-part-in-To
half_parts-returns-in_ok-part-in-To t c =
    let old = c.args.nodes.now in
    let outline = rw c.table.ensures at c.in_ok-part-in-To.ensures.outline in
    IfOk-weaker c.add_parts.result
    (λ r. HasParts old c.add_parts.new.nodes r (divide (tree_on old c.args.at) (outline_of old.planes c.in_ok-part-in-To.part)))
    (λ r. HasParts old c.add_parts.new.nodes r (divide (tree_on old c.args.at) (part_in c.args.half (outline_of old.planes c.args.by.face.now) (plane_named old.planes c.args.by.number))))
    (λ r. subst (λ (s : Outline). HasParts old c.add_parts.new.nodes r (divide (tree_on old c.args.at) s)) outline)
    c.add_parts.ensures

pub side_parts-returns : goal.side_parts-returns
side_parts-returns t c =
    let old = c.args.nodes.now in
    let middle = c.half_parts.new.nodes in
    let new = c.half_parts-2.new.nodes in
    let longer = c.in_ok-low.ensures.longer in
    let node = c.args.node.now in
    let second = subst (λ (u : BspTree). HasParts middle new c.in_ok-high.high (divide u (part_ahead (outline_of middle.planes c.args.by.now) (plane_named middle.planes node.face.plane))))
    (stood_on old middle node.ahead longer c.requires.node.ahead) c.in_ok-high.ensures in
    sides_parted old middle new node.behind node.ahead c.in_ok-low.low c.in_ok-high.high _ _ c.in_ok-low.ensures
    (subst (λ (ps : List Coefficients). HasParts middle new c.in_ok-high.high (divide (tree_on old node.ahead) (part_ahead (outline_of ps c.args.by.now) (plane_named ps node.face.plane)))) longer.planes second)

pub other_parts-returns-in_ok-parts-in-Across-Across : goal.other_parts-returns-in_ok-parts-in-Across-Across
other_parts-returns-in_ok-parts-in-Across-Across t c =
    let old = c.args.nodes.now in
    let middle = c.side_parts.new.nodes in
    let new = c.made_across.new.nodes in
    let s = outline_of old.planes c.args.by.now in
    let u = outline_of old.planes c.args.node.face in
    let b = tree_on old c.args.node.behind in
    let a = tree_on old c.args.node.ahead in
    let parted = c.in_ok-parts-in-Across-Across.ensures in
    let links = c.in_ok-parts-in-Across-Across.parts in
    let first = sym (rw c.table-table.ensures at c.in_ok-of_by.ensures.class) ∙ c.in-Across-Across.is-0 in
    let second = sym (rw c.table-table.ensures at c.in_ok-of_own.ensures.class) ∙ c.in-Across-Across.is-1 in
    let row = ap₂ (λ (x y : Class). parts_by_class x y s u b a (divide b s) (divide a s) (divide b (part_behind s u.plane)) (divide a (part_ahead s u.plane))) first second in
    IfOk-weaker c.made_across.result
    (λ r. HasParts middle new r (parts_where_across (outline_of middle.planes c.args.by.now) (outline_of middle.planes c.args.node.face) (trees_on middle links.0) (trees_on middle links.1)))
    (λ r. HasParts old new r (parts_off_plane s u b a))
    (λ r m. subst (HasParts old new r) (sym row)
    (across_parted old middle new links _ _ r s u parted
    (subst (λ (ps : List Coefficients). HasParts middle new r (parts_where_across (outline_of ps c.args.by.now) (outline_of ps c.args.node.face) (trees_on middle links.0) (trees_on middle links.1))) parted.longer.planes m)))
    c.made_across.ensures
