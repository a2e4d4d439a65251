use Rattle.std.proofs.Common.{◌≡◌, map, drop}
use Rattle.std.specs.List.{list_any}
use Rattle.scad_ast.specs.StatementView.{modifier_of}
use Rattle.scad_meaning.specs.Bodies.{switches_off}
use Rattle.scad_instance_rules.proofs.modifiers.any_off.Given as goal

abbrev pub invariant-loop-placed : goal.invariant-loop-placed
invariant-loop-placed l = list_any (λ m. switches_off m.modifier) (map modifier_of l.modifiers.items.items)
    ≡ list_any (λ m. switches_off m.modifier) (map modifier_of (drop l.placed-index l.modifiers.items.items))
