use Rattle.std.proofs.Common.{sym, subst, to_z, of_z}
use Rattle.std.proofs.lemmas.Int.{to_z-of_z}
use mir.Syntax.{w64}
use Rattle.primitives.specs.Sizes.{IsSafe}
use Rattle.scad_modules.proofs.Safe.{reads_safe, number_or_safe}
use Rattle.scad_modules.proofs.shapes.number_or.Goals as goal

pub returns-clause-safe : goal.returns-clause-safe
returns-clause-safe c =
    let same = to_z-of_z w64 c.args.default c.ranges.default in
    reads_safe IsSafe c.found_number.result _ c.found_number.ensures
    (number_or_safe c.args.bound.now c.args.parameter (to_z w64 (of_z w64 c.args.default))
    (subst IsSafe (sym same) c.requires))
