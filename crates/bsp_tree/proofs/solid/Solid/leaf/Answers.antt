use Rattle.bsp_tree.proofs.lemmas.Wholes.{leaf_kept, leaf_stands}
use Rattle.bsp_tree.proofs.solid.Solid.leaf.Goals as goal

pub invariant_of-result : goal.invariant_of-result
invariant_of-result c = rw (c.new.ensures.items, c.new-2.ensures) (leaf_kept c.args.is_inside)

pub returns : goal.returns
returns c = rw (c.new.ensures.items, c.new-2.ensures) (leaf_stands c.args.is_inside)
