use Rattle.std.proofs.Common.{ap, ◌∙◌, arith, sym, true≢false, is_lt, rules}
use Rattle.plane_table.proofs.lemmas.Orders.{ascending_apart, order_more, order_fails}
use Rattle.plane_table.proofs.ordering.is_ascending.Goals as goal

pub returns-then-not-is_lt-clause-ascending : goal.returns-then-not-is_lt-clause-ascending
returns-then-not-is_lt-clause-ascending c = (
  λ e. absurd (true≢false (sym e)),
  λ a. absurd (order_fails c.args.planes.now c.loop-i.i c.index-planes-i.result c.index-planes-i-in-loop-i.result c.is_lt.result c.loop-i.auto.i c.loop-i-test.true c.index-planes-i.is c.index-planes-i-in-loop-i.is
      (c.is_lt.ensures ∙ ap is_lt c.compare.ensures) (search rules) a),
)

pub returns-clause-apart : goal.returns-clause-apart
returns-clause-apart c = λ _. ascending_apart c.args.planes.now (record { next = λ k h. c.loop-i.invariant k (omega arith) })

pub loop-i-preserved : goal.loop-i-preserved
loop-i-preserved c =
    order_more c.args.planes.now c.loop-i.i c.index-planes-i.result c.index-planes-i-in-loop-i.result c.is_lt.result c.loop-i.auto.i c.loop-i-test.true c.index-planes-i.is c.index-planes-i-in-loop-i.is
    (c.is_lt.ensures ∙ ap is_lt c.compare.ensures) (search rules) c.loop-i.invariant
