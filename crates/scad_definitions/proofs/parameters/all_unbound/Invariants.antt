use Rattle.std.proofs.Common.{◌≡◌, None, replicate}
use Rattle.scad_definitions.proofs.parameters.all_unbound.Given as goal

abbrev pub invariant-loop : goal.invariant-loop
invariant-loop g l = l.bound.items ≡ replicate l.counter None
