use Rattle.std.proofs.Common.{◌≡◌, ◌+◌, ◌*◌, max, length, map, drop}
use Rattle.scad_ast.specs.declared.statement.Statements.{size-Statements}
use Rattle.scad_ast.specs.declared.statement.Statement.{size-Statement}
use Rattle.scad_ast.specs.declared.statement.Instance.{size-Instance}
use Rattle.scad_ast.specs.declared.statement.Core.{size-Core}
use Rattle.scad_ast.specs.declared.statement.Body.{size-Body}
use Rattle.scad_ast.specs.Terms.{statements_from}
use Rattle.scad_ast.specs.StatementView.{statement_of, statements_of}
use Rattle.scad_definitions.specs.Blocks.{entities_in}
use Rattle.scad_definitions.specs.Walk.{table_so_far, with_entities, locals_with}
use Rattle.scad_definitions.specs.TextView.{locals_under_way}
use Rattle.scad_definitions.proofs.walk.Walk.+walk.Given as goal

abbrev pub invariant-statements-each : goal.invariant-statements-each
invariant-statements-each l = record {
  walked_on : with_entities (table_so_far l.self) (entities_in (statements_from (map statement_of (drop l.statement-index l.statements.items.items))))
      ≡ with_entities (table_so_far l.fn.self) (entities_in (statements_from (statements_of l.statements)));
  owned : locals_with (locals_under_way l.so_far.local) (length (table_so_far l.self).functions) (length (table_so_far l.self).modules)
      (statements_from (map statement_of (drop l.statement-index l.statements.items.items)))
      ≡ locals_with (locals_under_way l.fn.so_far.local) (length (table_so_far l.fn.self).functions) (length (table_so_far l.fn.self).modules)
      (statements_from (statements_of l.statements));
}

abbrev pub decreases-statements : goal.decreases-statements
decreases-statements l = 2 * size-Statements l.statements.now

abbrev pub decreases-statement : goal.decreases-statement
decreases-statement l = 2 * size-Statement l.statement.now

abbrev pub decreases-core : goal.decreases-core
decreases-core l = 2 * size-Core l.core.now

abbrev pub decreases-two : goal.decreases-two
decreases-two l = 2 * max (size-Body l.body.now) (size-Body l.other.now) + 1

abbrev pub decreases-body : goal.decreases-body
decreases-body l = 2 * size-Body l.body.now

abbrev pub decreases-braces : goal.decreases-braces
decreases-braces l = 2 * size-Statements l.statements.now + 1

abbrev pub decreases-single : goal.decreases-single
decreases-single l = 2 * size-Instance l.instance.now + 1

abbrev pub decreases-module_body : goal.decreases-module_body
decreases-module_body l = 2 * size-Body l.body.now + 1
