use Rattle.std.proofs.Common.{◌∙◌, sym, subst}
use Rattle.std.proofs.lemmas.Result.{IfOk-weaker}
use Rattle.plane_polygon.specs.Polygons.{Outline}
use Rattle.plane_table.specs.Tables.{plane_named}
use Rattle.plane_table.specs.Faces.{outline_of}
use Rattle.plane_table.specs.Cuts.{part_in}
use Rattle.bsp_tree.specs.Trees.{node_or_leaf}
use Rattle.bsp_tree.specs.Growths.{tree_on}
use Rattle.bsp_partition.specs.Parts.{HasAddedTree}
use Rattle.bsp_partition.proofs.SheetParts.{same_made}
use Rattle.bsp_partition.proofs.parting.make_half.Goals as goal

pub returns-then-is_same_leaf : goal.returns-then-is_same_leaf
returns-then-is_same_leaf c = same_made _ _ _ _ c.requires.behind (sym c.is_same_leaf.ensures ∙ c.if-is_same_leaf.true)

pub returns : goal.returns
returns c =
    let old = c.args.nodes.now in
    let outline = rw c.table.ensures at c.in_ok-part.ensures.outline in
    IfOk-weaker c.make_node.result
    (λ l. HasAddedTree old c.make_node.new.nodes l (node_or_leaf (outline_of old.planes c.in_ok-part.part) (tree_on old c.args.behind) (tree_on old c.args.ahead)))
    (λ l. HasAddedTree old c.make_node.new.nodes l (node_or_leaf (part_in c.args.half (outline_of old.planes c.args.own.face.now) (plane_named old.planes c.args.own.number)) (tree_on old c.args.behind) (tree_on old c.args.ahead)))
    (λ l. subst (λ (s : Outline). HasAddedTree old c.make_node.new.nodes l (node_or_leaf s (tree_on old c.args.behind) (tree_on old c.args.ahead))) outline)
    c.make_node.ensures
