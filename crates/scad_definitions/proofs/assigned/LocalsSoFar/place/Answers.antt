use Rattle.std.proofs.Common.{◌∙◌}
use Rattle.scad_definitions.specs.TextView.{source_assignment_of}
use Rattle.scad_definitions.proofs.Placed.{place_there}
use Rattle.scad_definitions.proofs.assigned.LocalsSoFar.place.Goals as goal

pub returns-clause-within : goal.returns-clause-within
returns-clause-within c = place_there c.args.self.now.local.assignments.items (source_assignment_of c.args.sought.now) c.find.result
    (c.find.ensures ∙ c.args.self.now.placed (source_assignment_of c.args.sought.now))
