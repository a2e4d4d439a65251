use Rattle.std.proofs.Common.{◌≡◌, ◌+◌, ◌-◌, ◌*◌, ◌≤◌, ◌<◌, All, length, vec_len, vec_capacity}
use Rattle.parallel_eval.specs.Runs.{AreFreshLanes}
use Rattle.parallel_eval.proofs.store_solids.deal.Given as goal

abbrev pub invariant-loop-index : goal.invariant-loop-index
invariant-loop-index g l = record {
  lanes : AreFreshLanes l.fn.share.share.caller l.fn.before l.next l.lanes.items;
  even : All (λ lane. (lane.before + l.least ≤ lane.last) × (lane.last ≤ lane.before + l.least + 1)) l.lanes.items;
  rest : l.share ≡ record l.fn.share { share = record l.fn.share.share { parts = l.fn.share.share.parts - length l.lanes.items } };
  many : vec_len l.lanes ≡ l.index;
  room : l.count ≤ vec_capacity l.lanes;
  left : l.next + (l.count - l.index) * l.least + (l.longer - l.index) ≡ l.fn.last;
  fewer : l.longer < l.count;
  enough : l.count ≤ l.fn.builders;
}
