use Rattle.scad_scope.specs.View.{variables_of, names_in_table}
use Rattle.scad_scope.proofs.Bindings.{next_bound}
use Rattle.scad_scope.proofs.variables.Variables.bind_next.Goals as goal

pub returns-clause-bound : goal.returns-clause-bound
returns-clause-bound c = next_bound (variables_of c.args.self.now.later) (variables_of c.args.self.now.earlier)
    c.args.self.now.values.items c.push.new.self.items c.args.value (names_in_table c.args.self.now) c.args.name.now
    c.requires c.in_ok-push.ensures.items
