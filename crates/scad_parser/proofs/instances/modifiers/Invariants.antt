use Rattle.std.proofs.Common.{◌≡◌, map, length}
use Rattle.scad_ast.specs.StatementView.{modifier_of}
use Rattle.scad_grammar.specs.Reading.{in_front}
use Rattle.scad_grammar.specs.StatementReads.{modifiers_read}
use Rattle.scad_parser.proofs.instances.modifiers.Given as goal

abbrev pub invariant-modifiers : goal.invariant-modifiers
invariant-modifiers l =
    modifiers_read l.tokens ≡ in_front (map modifier_of l.items.items) (modifiers_read l.rest)

abbrev pub decreases-modifiers : goal.decreases-modifiers
decreases-modifiers l = length l.rest
