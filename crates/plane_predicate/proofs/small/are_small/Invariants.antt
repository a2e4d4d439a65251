use Rattle.std.proofs.Common.{ℕ, ◌<◌, get_or}
use Rattle.plane_predicate.specs.Space.{Coefficients}
use Rattle.plane_predicate.specs.Lines.{IsSmall}
use Rattle.plane_predicate.proofs.small.are_small.Given as goal

abbrev pub invariant-loop-plane : goal.invariant-loop-plane
invariant-loop-plane l = (k : ℕ) → (d : Coefficients) → k < l.plane-index → IsSmall (get_or l.planes k d)
