use Rattle.scad_modules.proofs.Safe.{AreSafe, reads_safe, two_safe}
use Rattle.scad_modules.proofs.shapes.square_size.Goals as goal

pub returns-clause-safe : goal.returns-clause-safe
returns-clause-safe c =
    reads_safe AreSafe c.found_square_size.result _ c.found_square_size.ensures (two_safe c.args.bound.now)
