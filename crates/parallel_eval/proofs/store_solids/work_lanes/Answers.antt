use Rattle.std.proofs.Common.{◌≡◌, ◌+◌, ◌^◌, ◌≤◌, ◌++◌, length, sum_by, ap, sym, subst, ◌∙◌, arith}
use Rattle.flight_memo.specs.Shares.{FlightView}
use Rattle.parallel_eval.specs.Joins.{AreAsked, MayAskJoins}
use Rattle.parallel_eval.specs.Runs.{joins_to, AreAtMost, IsRunWork, AreFreshLanes, AreLanes, AreComplete, AreOfCaller, with_lanes}
use Rattle.parallel_eval.proofs.Dealt.{each_ready}
use Rattle.parallel_eval.proofs.Steps.{with_caller}
use Rattle.parallel_eval.proofs.Divided.{divided_of, divided_asked, divided_counts, divided_lanes, divided_caller, divided_many, written, all_front, all_behind}
use Rattle.parallel_eval.proofs.store_solids.work_lanes.Goals as goal

pub work_each-requires-after_bounds : goal.work_each-requires-after_bounds
work_each-requires-after_bounds g c κs within =
    let builds = g.D.Builder.builds in
    let work = c.args.work.now in
    let trees = work.store.now in
    let start = work.start in
    let last = start + length work.nodes.now in
    let share = c.args.share.now.share in
    let busy = c.split_at_mut-busy.result.0.now in
    let idle = c.split_at_mut-busy.result.1.now in
    let items = c.in_ok-lanes.lanes.items in
    let ls = c.deref_mut.result.now in
    let same : ls ≡ items = cc c.deref_mut.ensures.value in
    let most = 2 ^ 46 + joins_to trees start in
    let counts : AreAtMost builds most busy =
    all_front (λ b. builds b ≤ most) busy idle (subst (AreAtMost builds most) c.split_at_mut-busy.ensures.value c.requires.ready.0.counts) in
    let some = c.one_tree_more.ensures.few trees start in
    let few = c.requires.run.few in
    let front = c.split_at_mut-busy.ensures.front_len in
    let whole = ap length same in
    each_ready builds (IsRunWork trees start work.solids.now work.nodes.now) c.requires.run (λ k. MayAskJoins (g.B.AskPolicy.may_ask k) trees) start (length work.nodes.now) start last share.caller most busy ls
    (subst (AreFreshLanes share.caller start last) (sym same) c.in_ok-lanes.ensures.lanes) (omega arith) (omega arith) counts (omega (arith, some, few))
    (omega (arith, front, whole, c.in_ok-lanes.lanes.ok.0)) c.requires.ready.1

pub returns-clause-lanes : goal.returns-clause-lanes
returns-clause-lanes g c =
    let builds = g.D.Builder.builds in
    let work = c.args.work.now in
    let trees = work.store.now in
    let start = work.start in
    let last = start + length work.nodes.now in
    let share = c.args.share.now.share in
    let busy = c.split_at_mut-busy.result.0.now in
    let idle = c.split_at_mut-busy.result.1.now in
    let items = c.in_ok-lanes.lanes.items in
    let ls = c.deref_mut.result.now in
    let same : ls ≡ items = cc c.deref_mut.ensures.value in
    let some = c.one_tree_more.ensures.few trees last in
    let all = divided_of builds trees start last share c.deal.new.share.share busy idle c.work_each.new.first items ls c.work_each.new.second
    (ap (λ (s : FlightView). s.share) c.in_ok-lanes.ensures.rest) c.in_ok-lanes.ensures.lanes same c.work_each.ensures c.requires.ready.0.dropped some c.requires.run.few in
    let many : length c.work_each.new.second ≡ length items = divided_many builds trees start last share c.deal.new.share.share busy idle c.work_each.new.first ls c.work_each.new.second all ∙ ap length same in
    let after = written c.in_ok-lanes.lanes.len c.work_each.new.second items many (omega (arith, c.in_ok-lanes.lanes.ok.0)) in
    subst (AreLanes trees start last) (sym after) (divided_lanes builds trees start last share c.deal.new.share.share busy idle c.work_each.new.first ls c.work_each.new.second all)

pub returns-clause-caller : goal.returns-clause-caller
returns-clause-caller g c =
    let builds = g.D.Builder.builds in
    let work = c.args.work.now in
    let trees = work.store.now in
    let start = work.start in
    let last = start + length work.nodes.now in
    let share = c.args.share.now.share in
    let busy = c.split_at_mut-busy.result.0.now in
    let idle = c.split_at_mut-busy.result.1.now in
    let items = c.in_ok-lanes.lanes.items in
    let ls = c.deref_mut.result.now in
    let same : ls ≡ items = cc c.deref_mut.ensures.value in
    let some = c.one_tree_more.ensures.few trees last in
    let all = divided_of builds trees start last share c.deal.new.share.share busy idle c.work_each.new.first items ls c.work_each.new.second
    (ap (λ (s : FlightView). s.share) c.in_ok-lanes.ensures.rest) c.in_ok-lanes.ensures.lanes same c.work_each.ensures c.requires.ready.0.dropped some c.requires.run.few in
    let many : length c.work_each.new.second ≡ length items = divided_many builds trees start last share c.deal.new.share.share busy idle c.work_each.new.first ls c.work_each.new.second all ∙ ap length same in
    let after = written c.in_ok-lanes.lanes.len c.work_each.new.second items many (omega (arith, c.in_ok-lanes.lanes.ok.0)) in
    subst (AreOfCaller c.deal.new.share.share.caller) (sym after) (divided_caller builds trees start last share c.deal.new.share.share busy idle c.work_each.new.first ls c.work_each.new.second all)

pub returns-clause-counts : goal.returns-clause-counts
returns-clause-counts g c =
    let builds = g.D.Builder.builds in
    let work = c.args.work.now in
    let trees = work.store.now in
    let start = work.start in
    let last = start + length work.nodes.now in
    let share = c.args.share.now.share in
    let busy = c.split_at_mut-busy.result.0.now in
    let idle = c.split_at_mut-busy.result.1.now in
    let items = c.in_ok-lanes.lanes.items in
    let ls = c.deref_mut.result.now in
    let same : ls ≡ items = cc c.deref_mut.ensures.value in
    let some = c.one_tree_more.ensures.few trees last in
    let all = divided_of builds trees start last share c.deal.new.share.share busy idle c.work_each.new.first items ls c.work_each.new.second
    (ap (λ (s : FlightView). s.share) c.in_ok-lanes.ensures.rest) c.in_ok-lanes.ensures.lanes same c.work_each.ensures c.requires.ready.0.dropped some c.requires.run.few in
    let most = 2 ^ 46 + joins_to trees start in
    let counts = subst (AreAtMost builds most) c.split_at_mut-busy.ensures.value c.requires.ready.0.counts in
    divided_counts builds trees start last share c.deal.new.share.share busy idle c.work_each.new.first ls c.work_each.new.second all (all_front (λ b. builds b ≤ most) busy idle counts) (all_behind (λ b. builds b ≤ most) busy idle counts)

pub returns-clause-asked : goal.returns-clause-asked
returns-clause-asked g c =
    let builds = g.D.Builder.builds in
    let work = c.args.work.now in
    let trees = work.store.now in
    let start = work.start in
    let last = start + length work.nodes.now in
    let share = c.args.share.now.share in
    let busy = c.split_at_mut-busy.result.0.now in
    let idle = c.split_at_mut-busy.result.1.now in
    let items = c.in_ok-lanes.lanes.items in
    let ls = c.deref_mut.result.now in
    let same : ls ≡ items = cc c.deref_mut.ensures.value in
    let some = c.one_tree_more.ensures.few trees last in
    let all = divided_of builds trees start last share c.deal.new.share.share busy idle c.work_each.new.first items ls c.work_each.new.second
    (ap (λ (s : FlightView). s.share) c.in_ok-lanes.ensures.rest) c.in_ok-lanes.ensures.lanes same c.work_each.ensures c.requires.ready.0.dropped some c.requires.run.few in
    let many : length c.work_each.new.second ≡ length items = divided_many builds trees start last share c.deal.new.share.share busy idle c.work_each.new.first ls c.work_each.new.second all ∙ ap length same in
    let after = written c.in_ok-lanes.lanes.len c.work_each.new.second items many (omega (arith, c.in_ok-lanes.lanes.ok.0)) in
    let count = sum_by builds (c.work_each.new.first ++ idle) in
    let fewer = c.in_ok-lanes.ensures.many in
    let parts = c.requires.ready.0.parts in
    let whole = ap length same in
    subst (λ ms. AreAsked (AreComplete ms) (joins_to trees start) (joins_to trees last) share (with_lanes c.deal.new.share.share ms) (sum_by builds c.args.builders.now) count) (sym after)
    (subst (λ bs. AreAsked (AreComplete c.work_each.new.second) (joins_to trees start) (joins_to trees last) share (with_lanes c.deal.new.share.share c.work_each.new.second) (sum_by builds bs) count) (sym c.split_at_mut-busy.ensures.value)
    (divided_asked builds trees start last share c.deal.new.share.share busy idle c.work_each.new.first ls c.work_each.new.second all (omega (arith, fewer, parts, whole)) (with_caller c.deal.new.share.share c.work_each.new.second)))
