use Rattle.std.proofs.Common.{ap}
use Rattle.std.proofs.lemmas.Result.{IfOk-weaker}
use Rattle.bsp_tree.specs.Shapes.{tree_of, SolidParts}
use Rattle.bsp_tree.specs.Growths.{HasTree}
use Rattle.bsp_tree.proofs.CopiedNodes.{all_found, copied_stands}
use Rattle.bsp_tree.proofs.copying.solid_over.Goals as goal

pub nodes_over-requires-clause-found : goal.nodes_over-requires-clause-found
nodes_over-requires-clause-found c =
    let planes = ap (λ (s : SolidParts). s.planes) c.parts.ensures.parts in
    all_found _ _ _ _ (rw (← planes) c.requires) c.parts.ensures.whole.faces

pub returns-clause-stands : goal.returns-clause-stands
returns-clause-stands c =
    rw c.parts.ensures.parts (IfOk-weaker c.nodes_over.result _ (λ n. HasTree n c.parts.result.2 (tree_of _))
    (λ n h. copied_stands _ n c.parts.ensures.whole h) c.nodes_over.ensures.copied)
