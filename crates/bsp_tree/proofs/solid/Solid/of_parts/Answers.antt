use Rattle.bsp_tree.proofs.lemmas.Wholes.{whole_kept}
use Rattle.bsp_tree.proofs.solid.Solid.of_parts.Goals as goal

pub invariant_of-result : goal.invariant_of-result
invariant_of-result c =
    whole_kept _ c.size_at-size.result c.requires (c.size_at-size.ensures c.args.planes.items)
