use Rattle.std.proofs.Common.{sym, ◌∙◌}
use Rattle.flight_memo.proofs.Items.{to_end_live, to_end_first}
use Rattle.flight_memo.proofs.claims.ending_number.Goals as goal

pub returns-then-has_number : goal.returns-then-has_number
returns-then-has_number g c = to_end_live c.args.number c.args.live.now (sym c.has_number.ensures ∙ c.if-has_number.true)

pub returns-else-has_number : goal.returns-else-has_number
returns-else-has_number g c = to_end_first c.args.number c.args.live.now c.index-live-0.result c.requires (sym c.has_number.ensures ∙ c.if-has_number.false)
