use Rattle.source_laws.proofs.Programs.{program_kept}
use Rattle.source_laws.proofs.solids.programs_keep_within_reach.Goals as goal

pub returns : goal.returns
returns c =
    let right = c.shapes_have_one_verdict.ensures.some in
    program_kept c.designs_are_of_hulls.ensures c.placed_hulls_keep_within_reach.ensures c.joins_keep_within_reach.ensures right.0 right.1
