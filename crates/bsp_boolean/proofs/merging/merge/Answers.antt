use Rattle.bsp_tree.specs.Shapes.{tree_of}
use Rattle.bsp_boolean.specs.Merges.{merge_of}
use Rattle.bsp_boolean.proofs.merging.merge.Goals as goal

pub in_all_memory-requires : goal.in_all_memory-requires
in_all_memory-requires c =
    (merge_of c.args.op (tree_of c.args.left.now) (tree_of c.args.right.now), c.merge_within.ensures.built)
