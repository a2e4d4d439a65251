use Rattle.plane_table.specs.Orders.{IsAscending}
use Rattle.plane_table.proofs.ordering.rising.Given as goal

abbrev pub invariant-loop-plane : goal.invariant-loop-plane
invariant-loop-plane l = IsAscending l.taken.items
