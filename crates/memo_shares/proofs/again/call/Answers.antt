use Rattle.std.proofs.Common.{rules, ◌≡◌, ◌∙◌, sym, ap}
use Rattle.std.specs.Arc.{arc_value}
use Rattle.memo_shares.proofs.again.call.Goals as goal

pub fill-answer-requires-clause-weight : goal.fill-answer-requires-clause-weight
fill-answer-requires-clause-weight g c =
    let e : arc_value c.in_ok-value-in-Filled.value ≡ c.in-Filled.weight = search rules in
    sym (ap g.F.Fit.weighs e ∙ (c.requires (arc_value c.args.noted.now.key) c.in-Filled.weight).1)
