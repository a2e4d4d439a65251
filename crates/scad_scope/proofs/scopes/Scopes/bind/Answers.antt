use Rattle.std.proofs.Common.{refl}
use Rattle.scad_value.specs.View.{val_of}
use Rattle.scad_definitions.specs.Numbered.{are_numbers_below}
use Rattle.scad_scope.specs.Table.{rows_of}
use Rattle.scad_scope.proofs.Envs.{binding_shown, binding_keeps}
use Rattle.scad_scope.proofs.Numbered.{binding_passes}
use Rattle.scad_scope.proofs.scopes.Scopes.bind.Goals as goal

pub returns-clause-here : goal.returns-clause-here
returns-clause-here c = binding_shown (rows_of c.args.self.now) (rows_of c.add_variable.new.self) c.args.scope
    c.args.name.now (val_of c.args.value) c.add_variable.result c.requires.scope c.add_variable.ensures.bound

pub returns-clause-kept : goal.returns-clause-kept
returns-clause-kept c = binding_keeps (rows_of c.args.self.now) (rows_of c.add_variable.new.self) c.args.scope
    c.args.name.now (val_of c.args.value) c.add_variable.result c.add_variable.ensures.bound
    c.add_variable.ensures.unchanged

pub returns-clause-numbered : goal.returns-clause-numbered
returns-clause-numbered c = record {
  functions = λ n h. binding_passes (λ r. are_numbers_below n r.functions)
      (rows_of c.args.self.now)
      (rows_of c.add_variable.new.self) c.args.scope c.args.name.now (val_of c.args.value) (λ r. refl)
      c.add_variable.result c.add_variable.ensures.bound c.add_variable.ensures.unchanged h;
  modules = λ n h. binding_passes (λ r. are_numbers_below n r.modules) (rows_of c.args.self.now)
      (rows_of c.add_variable.new.self) c.args.scope c.args.name.now (val_of c.args.value) (λ r. refl)
      c.add_variable.result c.add_variable.ensures.bound c.add_variable.ensures.unchanged h;
}
