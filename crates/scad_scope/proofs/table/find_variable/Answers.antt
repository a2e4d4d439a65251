use Rattle.scad_definitions.specs.Names.{newest_first}
use Rattle.scad_scope.proofs.lemmas.Chain.{value_found}
use Rattle.scad_scope.proofs.table.find_variable.Goals as goal

pub returns : goal.returns
returns c = value_found (newest_first c.args.variables.now) c.args.name.now c.find.result c.find.ensures
