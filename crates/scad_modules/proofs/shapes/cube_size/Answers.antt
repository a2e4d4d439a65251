use Rattle.scad_modules.proofs.Safe.{AreSafe, reads_safe, three_safe}
use Rattle.scad_modules.proofs.shapes.cube_size.Goals as goal

pub returns-clause-safe : goal.returns-clause-safe
returns-clause-safe c =
    reads_safe AreSafe c.found_cube_size.result _ c.found_cube_size.ensures (three_safe c.args.bound.now)
