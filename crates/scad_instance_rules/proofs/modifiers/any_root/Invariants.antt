use Rattle.std.proofs.Common.{◌≡◌, map, drop}
use Rattle.std.specs.List.{list_any}
use Rattle.scad_ast.specs.StatementView.{modifier_of}
use Rattle.scad_meaning.specs.Bodies.{is_root}
use Rattle.scad_instance_rules.proofs.modifiers.any_root.Given as goal

abbrev pub invariant-loop-placed : goal.invariant-loop-placed
invariant-loop-placed l = list_any (λ m. is_root m.modifier) (map modifier_of l.modifiers.items.items)
    ≡ list_any (λ m. is_root m.modifier) (map modifier_of (drop l.placed-index l.modifiers.items.items))
