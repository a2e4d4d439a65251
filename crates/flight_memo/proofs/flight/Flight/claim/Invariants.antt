use Rattle.std.proofs.Common.{◌≡◌}
use Rattle.flight_memo.proofs.flight.Flight.claim.Given as goal

-- nothing is booked so far
abbrev pub invariant-loop : goal.invariant-loop
invariant-loop g l =
    (goal.iterator-loop g).can_next l.iterator' × (goal.iterator-loop g).is_finite l.iterator'
    × (l.share ≡ l.fn.share)
