use Rattle.scad_scope.specs.Table.{rows_of}
use Rattle.scad_func.specs.View.{table_in}
use Rattle.scad_func.proofs.Environments.{enclosing_call_seen}
use Rattle.scad_func.proofs.evaluation.Evaluation.enclosing_activation.Goals as goal

pub returns-clause-value : goal.returns-clause-value
returns-clause-value c = enclosing_call_seen (table_in c.args.self.now.source.now) (rows_of c.args.self.now.scopes.now) c.args.self.now.scope
    c.activation_of.result c.activation_of.ensures.value
