use Rattle.std.proofs.Common.{refl, ap, length, subst, ◌≡◌, [], ◌∷◌, ◌++◌, ◌∙◌}
use Rattle.std.specs.Prelude.{OnOk}
use Rattle.scad_scope.specs.Names.{ScopeRow, numbered_activation, activation_row, env_of}
use Rattle.scad_scope.specs.Rows.{row_of_block}
use Rattle.scad_definitions.specs.Tables.{block_table_in}
use Rattle.scad_scope.specs.Table.{rows_of}
use Rattle.scad_scope.proofs.Envs.{entering_told, entering_kept, called_from}
use Rattle.scad_scope.proofs.Numbered.{block_stays_below}
use Rattle.scad_scope.proofs.scopes.Scopes.enter_activation.Goals as goal

row : goal.After-add → ScopeRow
row c = activation_row c.args.call.children c.args.call.caller
    (row_of_block c.args.outer (block_table_in c.args.blocks.now) c.args.block)

added : (c : goal.After-add) → OnOk c.add.result
    (rows_of c.add.new.self ≡ rows_of c.args.self.now ++ row c ∷ [])
unfolding row
added c = subst (λ r. OnOk c.add.result (rows_of c.add.new.self ≡ rows_of c.args.self.now ++ r ∷ []))
    (c.of_activation.ensures ∙ ap (activation_row c.args.call.children c.args.call.caller) c.in_ok-entered.ensures) c.add.ensures.added

pub returns-clause-inside : goal.returns-clause-inside
unfolding row
returns-clause-inside c = entering_told (rows_of c.args.self.now)
    (rows_of c.add.new.self) c.args.outer (row c) c.add.result
    (numbered_activation c.args.call.children (env_of (rows_of c.args.self.now) c.args.call.caller))
    refl
    (called_from (env_of (rows_of c.args.self.now)) (length (rows_of c.args.self.now)) c.args.call.children c.args.call.caller
    c.requires.caller)
    c.add.ensures.number (added c)

pub returns-clause-kept : goal.returns-clause-kept
returns-clause-kept c = record {
  scopes = entering_kept (rows_of c.args.self.now) (rows_of c.add.new.self) c.args.outer (row c)
      c.add.result (added c) c.add.ensures.unchanged;
  bindings = c.add.ensures.bindings;
}

pub returns-clause-numbered : goal.returns-clause-numbered
unfolding row
returns-clause-numbered c = block_stays_below (rows_of c.args.self.now) (rows_of c.add.new.self) c.args.outer c.args.blocks.now
    c.args.block (row c) c.add.result refl refl (added c) c.add.ensures.unchanged
