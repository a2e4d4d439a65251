use Rattle.std.proofs.Common.{◌<◌, length, arith}
use Rattle.scad_value.specs.View.{val_of}
use Rattle.scad_scope.proofs.Envs.{rows_length}
use Rattle.scad_scope.proofs.Bound.{binding_told, binding_refused}
use Rattle.scad_scope.proofs.scopes.Scopes.add_variable.Goals as goal

pub returns-clause-bound : goal.returns-clause-bound
returns-clause-bound c =
    let ss = c.args.self.now.scopes.items in
    let h : c.args.scope < length ss = omega (arith, c.requires, rows_length ss) in
    binding_told ss c.args.scope c.bind.new.self c.index_mut.result.now c.args.name.now (val_of c.args.value.value)
    h c.index_mut.ensures.value c.bind.result c.bind.ensures.bound

pub returns-clause-unchanged : goal.returns-clause-unchanged
returns-clause-unchanged c =
    let ss = c.args.self.now.scopes.items in
    let h : c.args.scope < length ss = omega (arith, c.requires, rows_length ss) in
    binding_refused ss c.args.scope c.bind.new.self c.index_mut.result.now c.args.name.now
    (val_of c.args.value.value) h c.index_mut.ensures.value c.bind.result c.bind.ensures.unchanged
