use Rattle.std.proofs.Common.{◌≡◌, ◌≤◌, map, drop, length}
use Rattle.scad_ast.specs.ExprView.{arg_of}
use Rattle.scad_ast.specs.StatementView.{param_of}
use Rattle.scad_definitions.specs.Arguments.{parameter_names, no_arguments_of, match_arguments}
use Rattle.scad_definitions.specs.ArgumentsView.{names_in, call_arguments_of}
use Rattle.scad_definitions.proofs.parameters.arguments.Given as goal

abbrev pub invariant-each : goal.invariant-each
invariant-each l =
    let names = parameter_names (map param_of l.params) in
    record {
      same : names_in l.so_far.names ≡ names;
      few : l.positional ≤ l.number;
      told : match_arguments names 0 0 (map arg_of l.args) (no_arguments_of (length names))
          ≡ match_arguments names l.number l.positional (map arg_of (drop l.number l.args)) (call_arguments_of l.so_far.given);
    }
