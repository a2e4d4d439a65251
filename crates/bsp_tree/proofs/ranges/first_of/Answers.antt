use Rattle.bsp_tree.proofs.PassedRanges.{first_whole}
use Rattle.bsp_tree.proofs.ranges.first_of.Goals as goal

pub returns : goal.returns
returns c = λ nodes face known n.
    first_whole nodes c.args.index face _ _ c.in_ok-middle.middle c.first_before-2.result n (c.in_ok-middle.ensures nodes known) (c.first_before-2.ensures nodes known)
