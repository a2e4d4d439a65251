use Rattle.std.proofs.Common.{refl, sym, ap, ap₂, ◌∙◌}
use Rattle.link_forest.specs.declared.link.Link.{Link}
use Rattle.plane_table.specs.Faces.{outline_of}
use Rattle.bsp_tree.specs.Shapes.{tree_of_branch}
use Rattle.bsp_tree.specs.Growths.{with_sides_exchanged, tree_on}
use Rattle.bsp_tree.proofs.lemmas.Growths.{leaf_grows}
use Rattle.bsp_tree.proofs.lemmas.Wholes.{end_exchanged, node_exchanged, node_same}
use Rattle.bsp_tree.proofs.copying.+add_branch.Goals as goal

pub returns-in-End : goal.returns-in-End
returns-in-End t c =
    rw (c.in-End.is, c.exchanged_leaf.ensures, end_exchanged c.args.from.now.planes c.args.from.now.nodes c.in-End.is_inside c.args.is_exchanged)
    (leaf_grows c.args.growing.now _)

pub returns-in_ok-copy-in-To : goal.returns-in_ok-copy-in-To
returns-in_ok-copy-in-To t c =
    let from = c.args.from.now in
    let turn = c.args.is_exchanged in
    let planes = c.in_ok-ahead-in-To.ensures.longer.planes ∙ c.in_ok-behind-in-To.ensures.longer.planes ∙ c.requires.table in
    let outline = ap₂ outline_of planes c.in_ok-copy-in-To.ensures in
    let own = ap (λ (l : Link). with_sides_exchanged turn (tree_on from l)) c.in-To.is
    ∙ ap (λ b. with_sides_exchanged turn (tree_of_branch from.planes b)) c.node-behind.ensures.node.tree
    ∙ node_exchanged _ _ _ turn ∙ sym (node_same outline refl refl) in
    rw own (c.add.ensures.grows c.args.growing.now c.add_branch.new.growing _ _ c.in_ok-behind-in-To.ensures c.in_ok-ahead-in-To.ensures)
