use Rattle.std.proofs.Common.{◌≡◌, ◌<◌, length}
use Rattle.scad_scope.specs.Names.{env_of, variable_in}
use Rattle.scad_scope.specs.Table.{rows_of}
use Rattle.scad_scope.proofs.scopes.Scopes.variable.Given as goal

abbrev pub invariant-outward : goal.invariant-outward
invariant-outward l = record {
  within : l.at < length (rows_of l.self);
  same : variable_in (env_of (rows_of l.self) l.scope) l.name ≡ variable_in (env_of (rows_of l.self) l.at)
      l.name;
}

abbrev pub decreases-outward : goal.decreases-outward
decreases-outward l = l.at
