use Rattle.std.proofs.Common.{◌∙◌, sym}
use Rattle.plane_table.specs.Faces.{outline_of}
use Rattle.bsp_tree.proofs.lemmas.Growths.{other_make}
use Rattle.bsp_partition.proofs.SheetParts.{same_made, node_made}
use Rattle.bsp_partition.proofs.parting.make_node.Goals as goal

pub returns-then-is_same_leaf : goal.returns-then-is_same_leaf
returns-then-is_same_leaf c = same_made _ _ _ _ c.requires.behind (sym c.is_same_leaf.ensures ∙ c.if-is_same_leaf.true)

pub returns : goal.returns
returns c =
    let old = c.args.nodes.now in
    rw (← other_make old c.args.behind c.args.ahead (outline_of old.planes c.args.face) c.len.ensures.linked c.requires.behind c.requires.ahead (sym c.is_same_leaf.ensures ∙ c.if-is_same_leaf.false))
    (node_made old _ _ _ _ _ c.in_ok-add.ensures.planes c.in_ok-add.ensures.adds)
