use Rattle.std.proofs.Common.{refl, subst, ◌≡◌, [], ◌∷◌, ◌++◌}
use Rattle.std.specs.Prelude.{OnOk}
use Rattle.scad_scope.specs.Names.{empty_row, no_numbered_activation}
use Rattle.scad_definitions.specs.Numbered.{are_numbers_below}
use Rattle.scad_scope.specs.Table.{rows_of}
use Rattle.scad_scope.proofs.Envs.{entering_told, entering_kept}
use Rattle.scad_scope.proofs.Numbered.{entering_passes}
use Rattle.scad_scope.proofs.scopes.Scopes.enter_empty.Goals as goal

added : (c : goal.After-add) → OnOk c.add.result
    (rows_of c.add.new.self ≡ rows_of c.args.self.now ++ empty_row c.args.outer ∷ [])
added c = subst (λ r. OnOk c.add.result (rows_of c.add.new.self ≡ rows_of c.args.self.now ++ r ∷ []))
    c.empty.ensures c.add.ensures.added

pub returns-clause-inside : goal.returns-clause-inside
returns-clause-inside c = entering_told (rows_of c.args.self.now) (rows_of c.add.new.self) c.args.outer
    (empty_row c.args.outer) c.add.result no_numbered_activation refl refl c.add.ensures.number (added c)

pub returns-clause-kept : goal.returns-clause-kept
returns-clause-kept c = record {
  scopes = entering_kept (rows_of c.args.self.now) (rows_of c.add.new.self) c.args.outer
      (empty_row c.args.outer) c.add.result (added c) c.add.ensures.unchanged;
  bindings = c.add.ensures.bindings;
}

pub returns-clause-numbered : goal.returns-clause-numbered
returns-clause-numbered c = record {
  functions = λ n h. entering_passes (λ r. are_numbers_below n r.functions)
      (rows_of c.args.self.now)
      (rows_of c.add.new.self) (empty_row c.args.outer) c.add.result (added c) c.add.ensures.unchanged refl h;
  modules = λ n h. entering_passes (λ r. are_numbers_below n r.modules) (rows_of c.args.self.now)
      (rows_of c.add.new.self) (empty_row c.args.outer) c.add.result (added c) c.add.ensures.unchanged refl h;
}
