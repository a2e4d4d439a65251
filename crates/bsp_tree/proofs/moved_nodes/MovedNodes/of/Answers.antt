use Rattle.std.proofs.Common.{ap}
use Rattle.bsp_tree.specs.Shapes.{SolidParts}
use Rattle.bsp_tree.proofs.CopiedNodes.{all_found}
use Rattle.bsp_tree.proofs.moved_nodes.MovedNodes.of.Goals as goal

pub invariant_of-result : goal.invariant_of-result
invariant_of-result c =
    let planes = ap (λ (s : SolidParts). s.planes) c.parts.ensures.parts in
    let whole = c.parts.ensures.whole in
    rw c.in_ok-of.ensures (record { faces = whole.faces; found = all_found _ _ _ _ (rw planes at c.requires) whole.faces })
