use Rattle.std.proofs.Common.{◌≡◌, IsTrue}
use Rattle.scad_value.specs.Values.{is_small}
use Rattle.scad_builtin.specs.Builtins.{power}
use Rattle.scad_builtin.proofs.number.repeated.Given as goal

abbrev pub invariant-loop : goal.invariant-loop
invariant-loop l = record { told : l.product ≡ power l.factor l.counter; small : IsTrue (is_small l.product) }
