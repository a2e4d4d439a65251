use Rattle.std.proofs.Common.{arith, inl, inr}
use Rattle.std.proofs.lemmas.Bool.{cases_lt}
use Rattle.std.proofs.lemmas.Option.{slice_get_within}
use Rattle.bsp_tree.proofs.CopiedNodes.{still_marked, marked_at}
use Rattle.bsp_tree.proofs.finishing.mark_nodes.Goals as goal

pub loop-index-preserved : goal.loop-index-preserved
loop-index-preserved c = record {
  same = omega (arith, c.mark_used.auto.used, c.loop-index.invariant.same);
  marked = λ at entry below there. elim (cases_lt at c.loop-index.index) [
    | inl low ↦ still_marked _ _ _ c.mark_used.ensures.others (c.loop-index.invariant.marked at entry low there)
    | inr high ↦ marked_at _ _ _ _ _ _ at entry (omega arith) c.node.ensures.node there c.mark_used.ensures.marked
  ];
}

pub returns : goal.returns
returns c = record {
  same = c.loop-index.invariant.same;
  marked = λ at entry there. c.loop-index.invariant.marked at entry (omega (arith, slice_get_within _ at entry there, c.loop-index-test.false, c.len-index-end.ensures.count)) there;
}
