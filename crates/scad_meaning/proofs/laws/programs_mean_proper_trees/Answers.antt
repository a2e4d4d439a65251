use Rattle.scad_meaning.proofs.ProperMeanings.{proper_meaning}
use Rattle.scad_meaning.proofs.laws.programs_mean_proper_trees.Goals as goal

pub returns : goal.returns
returns c =
    let right = c.shapes_have_one_verdict.ensures.some in
    let trim = c.designs_stay_trim.ensures in
    proper_meaning trim.grouped_trim trim.grouped_parts trim.moved_trim trim.moved_parts trim.pieces
    (λ design tree sound few placed. c.placed_trees_are_proper.ensures design tree sound few placed) right.0 right.1
