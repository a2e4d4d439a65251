use Rattle.std.proofs.Common.{[], refl}
use Rattle.scad_ast.specs.Terms.{no_statements}
use Rattle.scad_definitions.specs.Walk.{table_so_far}
use Rattle.scad_definitions.specs.TextView.{locals_of}
use Rattle.scad_definitions.proofs.Walks.{ending}
use Rattle.scad_definitions.proofs.walk.Walk.nothing.Goals as goal

pub returns : goal.returns
returns c = ending (table_so_far c.args.self.now) (table_so_far c.begin.new.self) (table_so_far c.end.new.self) c.in_ok-number.number
    (locals_of c.new.result) no_statements [] c.end.ensures c.in_ok-number.ensures.walked c.in_ok-number.ensures.number c.new.ensures refl
