use Rattle.scad_modules.specs.View.{chosen_of}
use Rattle.scad_modules.proofs.Safe.{choice_safe}
use Rattle.scad_modules.proofs.calls.children.Goals as goal

pub returns-clause-safe : goal.returns-clause-safe
returns-clause-safe c =
    choice_safe c.args.bound.now (chosen_of c.in_ok-chosen.field-0) c.in_ok-chosen.ensures
