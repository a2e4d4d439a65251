use Rattle.scad_ast.specs.StatementView.{params_of}
use Rattle.scad_expressions.proofs.lemmas.Stops.{memory_ran_out}
use Rattle.scad_parser.proofs.parameters.param_list.Goals as goal

pub returns-in_err-items : goal.returns-in_err-items
returns-in_err-items c = record { value = memory_ran_out params_of c.from_residual-in_err-items.result _ c.from_residual-in_err-items.ensures.1 }
