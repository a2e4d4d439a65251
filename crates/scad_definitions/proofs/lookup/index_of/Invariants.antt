use Rattle.std.proofs.Common.{◌≡◌, ◌≤◌, length, map, drop}
use Rattle.scad_ast.specs.StatementView.{param_of}
use Rattle.scad_definitions.specs.Names.{newest_first}
use Rattle.scad_definitions.specs.Arguments.{parameter_names}
use Rattle.scad_definitions.specs.Lookup.{numbered_from}
use Rattle.scad_definitions.proofs.lookup.index_of.Given as goal

abbrev pub invariant-back : goal.invariant-back
invariant-back l =
    let names = parameter_names (map param_of l.params) in
    record {
      few : l.left ≤ length names;
      numbered : newest_first l.index ≡ numbered_from l.left (drop l.left names);
    }

abbrev pub decreases-back : goal.decreases-back
decreases-back l = l.left
