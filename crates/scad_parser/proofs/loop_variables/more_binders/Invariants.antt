use Rattle.std.proofs.Common.{◌≡◌, map, length}
use Rattle.scad_ast.specs.StatementView.{binder_of}
use Rattle.scad_grammar.specs.Classes.{name_class, comma_sign, has_class}
use Rattle.scad_grammar.specs.Reading.{trailing_items, in_front}
use Rattle.scad_grammar.specs.Reads.{expr_read}
use Rattle.scad_grammar.specs.StatementReads.{binder_in}
use Rattle.scad_parser.proofs.loop_variables.more_binders.Given as goal

abbrev pub invariant-commas : goal.invariant-commas
invariant-commas l =
    in_front (map binder_of l.fn.items.items) (trailing_items (has_class comma_sign) (has_class name_class) (binder_in l.depth (expr_read l.depth)) l.tokens)
    ≡ in_front (map binder_of l.items.items) (trailing_items (has_class comma_sign) (has_class name_class) (binder_in l.depth (expr_read l.depth)) l.rest)

abbrev pub decreases-commas : goal.decreases-commas
decreases-commas l = length l.rest
