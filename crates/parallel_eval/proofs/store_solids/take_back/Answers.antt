use Rattle.std.proofs.Common.{ap, sym, subst, ◌∙◌}
use Rattle.flight_memo.specs.Shares.{FlightView}
use Rattle.parallel_eval.specs.Runs.{AreOfCaller, with_lanes}
use Rattle.parallel_eval.proofs.Steps.{caller_but_last, with_more}
use Rattle.parallel_eval.proofs.store_solids.take_back.Goals as goal

pub absorb-requires : goal.absorb-requires
absorb-requires g c =
    (caller_but_last c.loop-lane.share.share.caller c.pop.new.self.items c.in-Some.lane
    (subst (AreOfCaller c.loop-lane.share.share.caller) c.in-Some.ensures.items c.loop-lane.invariant.1)).1

pub loop-lane-preserved : goal.loop-lane-preserved
loop-lane-preserved g c =
    let left = c.pop.new.self.items in
    let share = c.loop-lane.share.share in
    let parted = caller_but_last share.caller left c.in-Some.lane
    (subst (AreOfCaller share.caller) c.in-Some.ensures.items c.loop-lane.invariant.1) in (
      ap (λ (s : FlightView). with_lanes s.share left) c.absorb.ensures
          ∙ sym (with_more share left c.in-Some.lane)
          ∙ ap (with_lanes share) (sym c.in-Some.ensures.items)
          ∙ c.loop-lane.invariant.0,
      subst (λ (s : FlightView). AreOfCaller s.share.caller left) (sym c.absorb.ensures) parted.0,
    )
