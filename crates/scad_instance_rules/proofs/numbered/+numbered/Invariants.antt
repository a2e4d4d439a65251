use Rattle.std.proofs.Common.{◌+◌, ◌*◌, map, drop}
use Rattle.std.specs.List.{All}
use Rattle.scad_ast.specs.Terms.{statements_from}
use Rattle.scad_ast.specs.StatementView.{statement_of, statements_of}
use Rattle.scad_func.specs.View.{table_in}
use Rattle.scad_instance_rules.specs.Positions.{term_of_numbered, HasBlocks}
use Rattle.scad_instance_rules.proofs.Numbering.{RemainingStatements, nesting_in, nesting_of}
use Rattle.scad_instance_rules.proofs.numbered.+numbered.Given as goal

abbrev pub invariant-add_all-each : goal.invariant-add_all-each
invariant-add_all-each l = record {
  remaining : RemainingStatements (table_in l.source) l.first l.next (statements_from (statements_of l.statements))
      (statements_from (map statement_of (drop l.statement-index l.statements.items.items)))
      (map term_of_numbered l.fn.found.items) (map term_of_numbered l.found.items);
  blocks : All (HasBlocks (table_in l.source)) l.fn.found.items → All (HasBlocks (table_in l.source)) l.found.items;
}

abbrev pub decreases-add_all : goal.decreases-add_all
decreases-add_all l = 2 * nesting_in (statements_from (statements_of l.statements.now)) + 1

abbrev pub decreases-add : goal.decreases-add
decreases-add l = 2 * nesting_of (statement_of l.statement.now)
