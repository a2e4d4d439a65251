use Rattle.scad_ast.specs.ExprView.{term_of}
use Rattle.scad_ast.specs.StatementView.{statement_of}
use Rattle.scad_grammar.specs.Grammar.{assignment_term}
use Rattle.scad_expressions.proofs.lemmas.Stops.{memory_ran_out, made_stops}
use Rattle.scad_parser.proofs.assignments.assignment.Goals as goal

pub returns-in_err-bytes : goal.returns-in_err-bytes
returns-in_err-bytes c = record { value = memory_ran_out statement_of c.from_residual.result _ c.from_residual.ensures.1 }

pub returns-in_err-value : goal.returns-in_err-value
returns-in_err-value c = record {
  value = made_stops term_of statement_of (assignment_term c.args.name.now) c.from_residual-in_err-value.result c.in_err-value.field-0.0 _ c.in_err-value.ensures.value c.from_residual-in_err-value.ensures.1;
}
