use Rattle.std.proofs.Common.{◌≡◌}
use Rattle.std.specs.Prelude.{drop}
use Rattle.memo_core.specs.Fields.{weight_at}
use Rattle.memo_core.proofs.owners.weight_in.Given as goal

abbrev pub invariant-loop-row : goal.invariant-loop-row
invariant-loop-row l = weight_at l.owner l.rows ≡ weight_at l.owner (drop l.row-index l.rows)
