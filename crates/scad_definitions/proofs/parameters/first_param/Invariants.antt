use Rattle.std.proofs.Common.{◌≡◌, map, drop}
use Rattle.scad_ast.specs.StatementView.{param_of}
use Rattle.scad_definitions.specs.Arguments.{first_named, parameter_names, number_after}
use Rattle.scad_definitions.proofs.parameters.first_param.Given as goal

abbrev pub invariant-loop-i : goal.invariant-loop-i
invariant-loop-i l = first_named (parameter_names (map param_of l.params)) l.name ≡ number_after l.i
    (first_named (parameter_names (map param_of (drop l.i l.params))) l.name)
