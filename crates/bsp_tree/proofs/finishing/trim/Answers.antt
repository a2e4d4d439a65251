use Rattle.std.proofs.Common.{◌≡◌, ◌∙◌}
use Rattle.std.proofs.lemmas.Result.{IfOk-weaker}
use Rattle.bsp_tree.specs.Shapes.{tree_of}
use Rattle.bsp_tree.specs.Growths.{tree_on}
use Rattle.bsp_tree.proofs.CopiedNodes.{copied_whole, used_found}
use Rattle.bsp_tree.proofs.finishing.trim.Goals as goal

pub nodes_over-requires-clause-found : goal.nodes_over-requires-clause-found
nodes_over-requires-clause-found c =
    let numbers = rw (c.planes-planes.ensures.planes, c.table.ensures) at c.in_ok-kept.ensures.numbers in
    rw (c.in_ok-table.ensures, c.deref.ensures.value, c.planes-planes.ensures.planes, c.table.ensures, c.forest.ensures.nodes)
    (used_found c.args.nodes.now _ _ _ c.requires.used numbers c.forest.ensures.faces)

pub whole-requires : goal.whole-requires
whole-requires c =
    let copied = rw (c.planes-planes.ensures.planes, c.table.ensures, c.forest.ensures.nodes) at c.in_ok-over.ensures.copied in
    copied_whole c.args.nodes.now c.in_ok-over.over c.args.root c.args.size c.requires.grown copied

pub returns : goal.returns
returns c =
    let copied = rw (c.planes-planes.ensures.planes, c.table.ensures, c.forest.ensures.nodes) at c.in_ok-over.ensures.copied in
    IfOk-weaker c.whole.result (λ s. tree_of s ≡ tree_on c.in_ok-over.over c.args.root) (λ s. tree_of s ≡ tree_on c.args.nodes.now c.args.root)
    (λ s e. e ∙ copied.trees c.args.root c.requires.grown.there) c.whole.ensures
