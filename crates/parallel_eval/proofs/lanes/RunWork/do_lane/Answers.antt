use Rattle.std.proofs.Common.{◌≡◌, ◌+◌, ◌-◌, ◌++◌, ◌∷◌, [], if◌then◌else◌, refl, ap, subst, sym, ◌∙◌, arith}
use Rattle.parallel_eval.specs.Joins.{AreAsked, MayAskJoins}
use Rattle.parallel_eval.specs.Runs.{joins_to, HasMade}
use Rattle.parallel_eval.proofs.Laned.{lane_steps, lane_breaks}
use Rattle.parallel_eval.proofs.lanes.RunWork.do_lane.Goals as goal

pub outcome-requires-clause-allowed : goal.outcome-requires-clause-allowed
outcome-requires-clause-allowed g c =
    subst (λ k. MayAskJoins (g.B.AskPolicy.may_ask k) c.args.self.now.store.now) (sym c.loop-before.invariant.asked.caller) c.requires.allowed

pub returns-in_default : goal.returns-in_default
returns-in_default g c =
    let trees = c.args.self.now.store.now in
    let k = c.loop-before.before in
    let l = g.D.Builder.builds c.args.builder.now in
    let m = g.D.Builder.builds c.loop-before.builder in
    let n = g.D.Builder.builds c.outcome.new.builder in
    let old = c.loop-before.lane in
    let here : k + 1 - 1 ≡ k = omega arith in
    lane_breaks trees k l m n c.args.lane.now old _ (HasMade c.outcome.result) c.loop-before.invariant c.loop-before-test.true refl refl refl
    (subst (λ x. AreAsked (HasMade c.outcome.result) (joins_to trees x) (joins_to trees (k + 1)) old.share.share c.outcome.new.share.share m n) here c.outcome.ensures.asked)

pub returns-then-is_err : goal.returns-then-is_err
returns-then-is_err g c =
    let trees = c.args.self.now.store.now in
    let k = c.loop-before.before in
    let l = g.D.Builder.builds c.args.builder.now in
    let m = g.D.Builder.builds c.loop-before.builder in
    let n = g.D.Builder.builds c.outcome.new.builder in
    let old = c.loop-before.lane in
    let here : k + 1 - 1 ≡ k = omega arith in
    lane_breaks trees k l m n c.args.lane.now old _ (HasMade c.outcome.result) c.loop-before.invariant c.loop-before-test.true refl refl
    (c.push.ensures.items ∙ ap (λ b. if b then old.made.items ++ c.in-Ok.outcome ∷ [] else old.made.items) c.if-is_err.ensures.negation)
    (subst (λ x. AreAsked (HasMade c.outcome.result) (joins_to trees x) (joins_to trees (k + 1)) old.share.share c.outcome.new.share.share m n) here c.outcome.ensures.asked)

pub loop-before-preserved : goal.loop-before-preserved
loop-before-preserved g c =
    let trees = c.args.self.now.store.now in
    let k = c.loop-before.before in
    let l = g.D.Builder.builds c.args.builder.now in
    let m = g.D.Builder.builds c.loop-before.builder in
    let n = g.D.Builder.builds c.outcome.new.builder in
    let old = c.loop-before.lane in
    let here : k + 1 - 1 ≡ k = omega arith in
    lane_steps trees k l m n c.args.lane.now old _ c.in-Ok.outcome (HasMade c.outcome.result) c.loop-before.invariant refl refl
    (c.push.ensures.items ∙ ap (λ b. if b then old.made.items ++ c.in-Ok.outcome ∷ [] else old.made.items) c.if-is_err.ensures.negation)
    c.in-Ok.ensures.outcome
    (λ made. subst HasMade (sym c.in-Ok.is) made)
    (subst (λ x. AreAsked (HasMade c.outcome.result) (joins_to trees x) (joins_to trees (k + 1)) old.share.share c.outcome.new.share.share m n) here c.outcome.ensures.asked)
