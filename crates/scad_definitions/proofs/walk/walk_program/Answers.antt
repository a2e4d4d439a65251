use Rattle.std.proofs.Common.{arith, ap}
use Rattle.scad_ast.specs.Terms.{statements_from}
use Rattle.scad_ast.specs.StatementView.{statements_of}
use Rattle.scad_definitions.specs.Walk.{count_numbered}
use Rattle.scad_definitions.proofs.Begun.{all_begun}
use Rattle.scad_definitions.proofs.walk.walk_program.Goals as goal

pub braces-requires : goal.braces-requires
braces-requires c =
    omega (arith, ap count_numbered c.new-walk.ensures, all_begun (statements_from (statements_of c.args.program.now.statements)), c.args.program.now.few)
