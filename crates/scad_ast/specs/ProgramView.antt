-- The statements of a program in memory, as plain trees.
use Rattle.std.specs.Prelude.{List}
use Rattle.scad_ast.specs.declared.program.Program.{Program}
use Rattle.scad_ast.specs.Terms.{StatementTerm}
use Rattle.scad_ast.specs.StatementView.{statements_of}

-- its statements in order
abbrev pub program_of : Program → List StatementTerm
program_of program = statements_of program.statements
