use Rattle.std.proofs.Common.{List, refl, sym, ap, ◌∙◌}
use Rattle.plane_predicate.specs.Space.{Coefficients}
use Rattle.link_forest.specs.declared.link.Link.{Link}
use Rattle.plane_table.specs.Faces.{outline_of}
use Rattle.bsp_tree.specs.Shapes.{tree_of_branch}
use Rattle.bsp_tree.specs.Growths.{tree_on}
use Rattle.bsp_tree.proofs.lemmas.Growths.{leaf_grows}
use Rattle.bsp_tree.proofs.lemmas.Wholes.{leaf_tree, node_same}
use Rattle.bsp_tree.proofs.moved_nodes.+add_moved.Goals as goal

pub returns-in-End : goal.returns-in-End
returns-in-End t c =
    rw (c.in-End.is, leaf_tree c.args.from.now.own.planes c.args.from.now.own.nodes c.in-End.field-0)
    (leaf_grows c.args.growing.now _)

pub returns-in_ok-ahead-in-To : goal.returns-in_ok-ahead-in-To
returns-in_ok-ahead-in-To t c =
    let from = c.args.from.now in
    let moved = c.in_ok-face-in-To.ensures in
    let planes = c.in_ok-ahead-in-To.ensures.longer.planes ∙ c.in_ok-behind-in-To.ensures.longer.planes ∙ c.requires.table in
    let outline = ap (λ (ps : List Coefficients). outline_of ps c.in_ok-face-in-To.face) planes ∙ moved.outline in
    let own = ap (λ (l : Link). tree_on from.own l) c.in-To.is
    ∙ ap (λ b. tree_of_branch from.own.planes b) moved.node.tree
    ∙ sym (node_same outline refl refl) in
    rw own (c.add.ensures.grows c.args.growing.now c.add_moved.new.growing _ _ c.in_ok-behind-in-To.ensures c.in_ok-ahead-in-To.ensures)
