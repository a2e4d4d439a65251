use Rattle.std.proofs.Common.{◌≡◌, map, drop}
use Rattle.scad_builtin.specs.Builtins.{named_in}
use Rattle.scad_builtin.proofs.name.named_in.Given as goal

abbrev pub invariant-loop-known : goal.invariant-loop-known
invariant-loop-known g l = named_in (map (λ known. (known.0.now, known.1)) l.names) l.name ≡ named_in (map (λ known. (known.0.now, known.1)) (drop l.known-index l.names)) l.name
