use Rattle.std.proofs.Common.{◌≡◌, drop}
use Rattle.scad_definitions.specs.Arguments.{first_named, number_after}
use Rattle.scad_definitions.specs.ArgumentsView.{names_seen}
use Rattle.scad_definitions.proofs.parameters.first_listed.Given as goal

abbrev pub invariant-loop-i : goal.invariant-loop-i
invariant-loop-i l = first_named (names_seen l.names) l.name ≡ number_after l.i
    (first_named (names_seen (drop l.i l.names)) l.name)
