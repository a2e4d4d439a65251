use Rattle.std.proofs.Common.{◌≡◌, ◌++◌, ◌≤◌, length, map}
use Rattle.scad_scope.specs.Names.{oldest_pairs}
use Rattle.scad_scope.specs.Table.{rows_of, bindings_of}
use Rattle.scad_func.specs.View.{special_binding_of, bindings_in}
use Rattle.scad_func.proofs.Chains.{set_on}
use Rattle.scad_func.proofs.dynamic.bind_each_special.Given as goal

abbrev pub invariant-each : goal.invariant-each
invariant-each l = record {
  told : set_on (map special_binding_of l.left.rest.items) (bindings_of l.scopes)
      ≡ bindings_in l.fn.dynamic.items ++ bindings_of l.fn.scopes;
  longer : length (bindings_of l.fn.scopes) ≤ length (bindings_of l.scopes);
  older : oldest_pairs (length (bindings_of l.fn.scopes)) (bindings_of l.scopes) ≡ bindings_of l.fn.scopes;
  rows : rows_of l.scopes ≡ rows_of l.fn.scopes;
}

abbrev pub decreases-each : goal.decreases-each
decreases-each l = length l.left.rest.items
