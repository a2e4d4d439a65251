use Rattle.std.proofs.Common.{refl, subst, ◌≡◌, [], ◌∷◌, ◌++◌}
use Rattle.std.specs.Prelude.{OnOk}
use Rattle.scad_scope.specs.Names.{ScopeRow, no_numbered_activation}
use Rattle.scad_scope.specs.Rows.{row_of_block}
use Rattle.scad_definitions.specs.Tables.{block_table_in}
use Rattle.scad_scope.specs.Table.{rows_of}
use Rattle.scad_scope.proofs.Envs.{entering_told, entering_kept}
use Rattle.scad_scope.proofs.Numbered.{block_stays_below}
use Rattle.scad_scope.proofs.scopes.Scopes.enter.Goals as goal

row : goal.After-add → ScopeRow
row c = row_of_block c.args.outer (block_table_in c.args.blocks.now) c.args.block

added : (c : goal.After-add) → OnOk c.add.result
    (rows_of c.add.new.self ≡ rows_of c.args.self.now ++ row c ∷ [])
unfolding row
added c = subst (λ r. OnOk c.add.result (rows_of c.add.new.self ≡ rows_of c.args.self.now ++ r ∷ []))
    c.in_ok-scope.ensures c.add.ensures.added

pub returns-clause-inside : goal.returns-clause-inside
unfolding row
returns-clause-inside c = entering_told (rows_of c.args.self.now)
    (rows_of c.add.new.self) c.args.outer (row c)
    c.add.result no_numbered_activation refl
    refl
    c.add.ensures.number (added c)

pub returns-clause-kept : goal.returns-clause-kept
returns-clause-kept c = record {
  scopes = entering_kept (rows_of c.args.self.now) (rows_of c.add.new.self) c.args.outer (row c)
      c.add.result (added c) c.add.ensures.unchanged;
  bindings = c.add.ensures.bindings;
}

pub returns-clause-numbered : goal.returns-clause-numbered
unfolding row
returns-clause-numbered c = block_stays_below (rows_of c.args.self.now) (rows_of c.add.new.self) c.args.outer c.args.blocks.now
    c.args.block (row c) c.add.result refl refl (added c) c.add.ensures.unchanged
