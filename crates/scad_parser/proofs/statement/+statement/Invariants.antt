use Rattle.std.proofs.Common.{◌≡◌, ◌+◌, ◌*◌, map, length}
use Rattle.scad_ast.specs.StatementView.{statement_of}
use Rattle.scad_grammar.specs.Classes.{has_class_in}
use Rattle.scad_grammar.specs.Reading.{repeated_read, in_front}
use Rattle.scad_grammar.specs.StatementReads.{firsts_of_statement, statement_read}
use Rattle.scad_parser.proofs.statement.+statement.Given as goal

abbrev pub decreases-statement : goal.decreases-statement
decreases-statement l = 16 * l.depth

abbrev pub decreases-body : goal.decreases-body
decreases-body l = 16 * l.depth

abbrev pub decreases-statements : goal.decreases-statements
decreases-statements l = 16 * l.depth + 1

abbrev pub decreases-braces : goal.decreases-braces
decreases-braces l = 16 * l.depth + 2

abbrev pub decreases-branch : goal.decreases-branch
decreases-branch l = 16 * l.depth + 3

abbrev pub decreases-repetition : goal.decreases-repetition
decreases-repetition l = 16 * l.depth + 2

abbrev pub decreases-call : goal.decreases-call
decreases-call l = 16 * l.depth + 2

abbrev pub decreases-core : goal.decreases-core
decreases-core l = 16 * l.depth + 4

abbrev pub decreases-instance : goal.decreases-instance
decreases-instance l = 16 * l.depth + 5

abbrev pub decreases-module : goal.decreases-module
decreases-module l = 16 * l.depth + 1

abbrev pub decreases-definition : goal.decreases-definition
decreases-definition l = 16 * l.inner + 6

abbrev pub decreases-body_over : goal.decreases-body_over
decreases-body_over l = 16 * l.depth + 7

abbrev pub decreases-statement_over : goal.decreases-statement_over
decreases-statement_over l = 16 * l.inner + 7

abbrev pub decreases-boxed_body : goal.decreases-boxed_body
decreases-boxed_body l = 16 * l.depth + 1

abbrev pub decreases-otherwise : goal.decreases-otherwise
decreases-otherwise l = 16 * l.depth + 2

abbrev pub invariant-statements-statements : goal.invariant-statements-statements
invariant-statements-statements l =
    repeated_read (has_class_in firsts_of_statement) (statement_read l.depth) l.tokens ≡ in_front (map statement_of l.items.items) (repeated_read (has_class_in firsts_of_statement) (statement_read l.depth) l.rest)

abbrev pub decreases-statements-statements : goal.decreases-statements-statements
decreases-statements-statements l = length l.rest
