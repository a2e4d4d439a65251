use Rattle.std.proofs.Common.{◌≡◌, map, take}
use Rattle.scad_definitions.specs.ArgumentsView.{names_of_params}
use Rattle.scad_definitions.specs.TextView.{names_of_module}
use Rattle.scad_definitions.proofs.blocks.names_of_modules.Given as goal

abbrev pub invariant-loop-defined : goal.invariant-loop-defined
invariant-loop-defined l = map names_of_params l.names.items ≡ map names_of_module (take l.defined-index l.modules)
