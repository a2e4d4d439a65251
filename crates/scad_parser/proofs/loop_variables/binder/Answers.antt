use Rattle.scad_ast.specs.StatementView.{binder_of}
use Rattle.scad_expressions.proofs.lemmas.Stops.{memory_ran_out}
use Rattle.scad_parser.proofs.loop_variables.binder.Goals as goal

pub returns-in_err-name : goal.returns-in_err-name
returns-in_err-name c = record { value = memory_ran_out binder_of c.from_residual-in_err-name.result _ c.from_residual-in_err-name.ensures.1 }
