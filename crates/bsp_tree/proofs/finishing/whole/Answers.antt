use Rattle.std.proofs.Common.{◌∙◌, ◌++◌, ap}
use Rattle.bsp_tree.proofs.lemmas.Wholes.{whole_tree}
use Rattle.bsp_tree.proofs.finishing.whole.Goals as goal

pub returns : goal.returns
returns c =
    let listed = c.in_ok-extend_from_slice.ensures.items ∙ ap (λ xs. xs ++ c.planes.result.now) c.new-planes.ensures.items
    ∙ c.planes.ensures.planes ∙ c.table.ensures in
    whole_tree c.args.nodes _ _ c.args.root c.of_growth.result c.of_growth.ensures listed (c.shrink_to_fit.ensures.nodes ∙ c.into_forest-forest.ensures.nodes)
