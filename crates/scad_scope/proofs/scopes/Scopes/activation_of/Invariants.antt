use Rattle.std.proofs.Common.{◌≡◌, ◌<◌, length}
use Rattle.scad_scope.specs.Names.{env_of, enclosing_activation}
use Rattle.scad_scope.specs.Table.{rows_of}
use Rattle.scad_scope.proofs.scopes.Scopes.activation_of.Given as goal

abbrev pub invariant-outward : goal.invariant-outward
invariant-outward l = record {
  within : l.at < length (rows_of l.self);
  same : enclosing_activation (env_of (rows_of l.self) l.scope) ≡ enclosing_activation (env_of (rows_of l.self) l.at);
}

abbrev pub decreases-outward : goal.decreases-outward
decreases-outward l = l.at
