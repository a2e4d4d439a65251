-- What arguments that are matched one after another give.
use Rattle.std.specs.Prelude.{Result, Ok, Err}
use Rattle.text_place.specs.declared.fault.Stop.{Stop}
use Rattle.scad_definitions.specs.declared.parameters.CallArguments.{CallArguments}
use Rattle.scad_definitions.specs.declared.so_far.ArgumentsSoFar.{ArgumentsSoFar}

-- what they give, or the stop
abbrev pub only_arguments : {T : Type 0} → Result (ArgumentsSoFar T) Stop
    → Result (CallArguments T) Stop
only_arguments (Ok so_far) = Ok so_far.given
only_arguments (Err stop) = Err stop
