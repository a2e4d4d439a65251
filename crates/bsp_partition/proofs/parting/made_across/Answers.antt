use Rattle.std.proofs.Common.{List, subst}
use Rattle.plane_predicate.specs.Space.{Coefficients}
use Rattle.plane_polygon.specs.Parts.{part_ahead}
use Rattle.plane_table.specs.Tables.{plane_named}
use Rattle.plane_table.specs.Faces.{outline_of}
use Rattle.bsp_tree.specs.Trees.{node_or_leaf}
use Rattle.bsp_tree.specs.Growths.{tree_on}
use Rattle.bsp_partition.specs.Parts.{HasAddedTree}
use Rattle.bsp_partition.proofs.SheetParts.{both_made}
use Rattle.bsp_partition.proofs.parting.made_across.Goals as goal

pub returns : goal.returns
returns c =
    let old = c.args.nodes.now in
    let middle = c.make_half.new.nodes in
    let new = c.make_half-2.new.nodes in
    let links = c.args.parts in
    let second = subst (λ (ps : List Coefficients). HasAddedTree middle new c.in_ok-second.second
    (node_or_leaf (part_ahead (outline_of ps c.args.face.now) (plane_named ps c.args.by.now.plane)) (tree_on middle links.0.1) (tree_on middle links.1.1)))
    c.in_ok-first.ensures.longer.planes c.in_ok-second.ensures in
    both_made old middle new c.in_ok-first.first c.in_ok-second.second _ _ links c.requires.links c.in_ok-first.ensures second
