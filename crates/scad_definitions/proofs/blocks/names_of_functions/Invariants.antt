use Rattle.std.proofs.Common.{◌≡◌, map, take}
use Rattle.scad_definitions.specs.ArgumentsView.{names_of_params}
use Rattle.scad_definitions.specs.TextView.{names_of_function}
use Rattle.scad_definitions.proofs.blocks.names_of_functions.Given as goal

abbrev pub invariant-loop-function : goal.invariant-loop-function
invariant-loop-function l = map names_of_params l.names.items ≡ map names_of_function (take l.function-index l.functions)
