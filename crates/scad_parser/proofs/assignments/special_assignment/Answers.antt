use Rattle.scad_ast.specs.StatementView.{statement_of}
use Rattle.scad_expressions.proofs.lemmas.Stops.{memory_ran_out}
use Rattle.scad_parser.proofs.assignments.special_assignment.Goals as goal

pub returns-in_err-bytes : goal.returns-in_err-bytes
returns-in_err-bytes c = record { value = memory_ran_out statement_of c.from_residual-in_err-bytes.result _ c.from_residual-in_err-bytes.ensures.1 }
