use Rattle.std.proofs.Common.{◌≡◌, ◌+◌, option_map}
use Rattle.std.specs.Prelude.{drop}
use Rattle.memo_core.specs.Fields.{place_at}
use Rattle.memo_core.proofs.owners.place_in.Given as goal

abbrev pub invariant-loop-place : goal.invariant-loop-place
invariant-loop-place l = place_at l.owner l.rows ≡ option_map (λ k. l.place + k) (place_at l.owner (drop l.place l.rows))
