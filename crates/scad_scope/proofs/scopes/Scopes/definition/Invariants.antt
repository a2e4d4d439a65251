use Rattle.std.proofs.Common.{◌≡◌, ◌<◌, length}
use Rattle.scad_scope.specs.Names.{env_of}
use Rattle.scad_scope.specs.View.{definition_in}
use Rattle.scad_scope.specs.Table.{rows_of}
use Rattle.scad_scope.proofs.scopes.Scopes.definition.Given as goal

abbrev pub invariant-outward : goal.invariant-outward
invariant-outward l = record {
  within : l.at < length (rows_of l.self);
  same : definition_in l.name_space (env_of (rows_of l.self) l.scope) l.name ≡ definition_in l.name_space
      (env_of (rows_of l.self) l.at) l.name;
}

abbrev pub decreases-outward : goal.decreases-outward
decreases-outward l = l.at
