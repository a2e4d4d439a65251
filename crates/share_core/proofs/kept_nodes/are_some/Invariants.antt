use Rattle.std.proofs.Common.{◌≡◌, map, drop, option_map}
use Rattle.std.specs.Arc.{arc_value}
use Rattle.share_core.specs.KeptNodes.{are_values}
use Rattle.share_core.proofs.kept_nodes.are_some.Given as goal

abbrev pub invariant-loop-value : goal.invariant-loop-value
invariant-loop-value g l = are_values (map (λ x. option_map arc_value x) l.have) ≡ are_values (map (λ x. option_map arc_value x) (drop l.value-index l.have))
