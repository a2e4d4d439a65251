use Rattle.source_laws.proofs.PlacedHulls.{placed_kept}
use Rattle.source_laws.proofs.solids.placed_hulls_keep_within_reach.Goals as goal

pub returns : goal.returns
returns c = placed_kept c.placed_shapes_are_hulls_of_their_points.ensures.reach c.placed_shapes_are_hulls_of_their_corners.ensures.reach
