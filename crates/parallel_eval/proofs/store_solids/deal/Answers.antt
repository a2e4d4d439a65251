use Rattle.std.proofs.Common.{◌≡◌, ◌+◌, ◌-◌, ◌≤◌, ◌++◌, ◌∷◌, [], length, ap, sym, subst, ◌∙◌, arith, length-append}
use Rattle.subtree_memo.specs.Shares.{fresh_share}
use Rattle.flight_memo.specs.Shares.{FlightView}
use Rattle.parallel_eval.specs.Runs.{AreFreshLanes}
use Rattle.parallel_eval.proofs.Steps.{fresh_more}
use Rattle.parallel_eval.proofs.Dealt.{left_for, even_more}
use Rattle.parallel_eval.proofs.store_solids.deal.Goals as goal

pub loop-index-preserved : goal.loop-index-preserved
loop-index-preserved g c =
    let all = c.args.share.now in
    let whole = all.share in
    let before = c.loop-index.invariant in
    let lane = c.fresh_lane.result in
    let more = c.one_more.result in
    let items : c.push_reserved.new.self.items ≡ c.loop-index.lanes.items ++ lane ∷ [] = c.push_reserved.ensures.items in
    let share : lane.share.share ≡ fresh_share whole.caller 1 =
    ap (λ (s : FlightView). s.share) (c.fresh_lane.ensures.share ∙ c.split.ensures.new) ∙ ap (λ (s : FlightView). fresh_share s.share.caller 1) before.rest in
    let first : lane.before ≡ c.loop-index.next = c.fresh_lane.ensures.range.0 in
    let end = c.fresh_lane.ensures.range.1 in
    let longer : length c.push_reserved.new.self.items ≡ length c.loop-index.lanes.items + 1 =
    ap length items ∙ length-append c.loop-index.lanes.items (lane ∷ []) in
    let fewer : (whole.parts - length c.loop-index.lanes.items) - 1 ≡ whole.parts - length c.push_reserved.new.self.items =
    omega arith in
    let one : more ≤ 1 = c.one_more.ensures.one in record {
      lanes = subst (AreFreshLanes whole.caller c.args.before _) (sym items)
          (fresh_more whole.caller c.args.before c.loop-index.next _ c.loop-index.lanes.items lane before.lanes share
          first (omega arith) c.fresh_lane.ensures.empty end);
      even = even_more _ c.loop-index.lanes.items c.push_reserved.new.self.items lane c.loop-index.next more items before.even first end one;
      rest = c.split.ensures.rest
          ∙ ap (λ (s : FlightView). record s { share = record s.share { parts = s.share.parts - 1 } }) before.rest
          ∙ ap (λ n. record all { share = record whole { parts = n } }) fewer;
      many = omega (arith, c.push_reserved.ensures.len);
      room = omega (arith, c.push_reserved.ensures.capacity);
      left = left_for c.loop-index.next _ c.loop-index.index _ _ more c.args.last (omega arith) c.one_more.ensures.left before.left;
      fewer = before.fewer;
      enough = before.enough;
    }

pub returns-clause-even : goal.returns-clause-even
returns-clause-even g c = (_, c.loop-index.invariant.even)
