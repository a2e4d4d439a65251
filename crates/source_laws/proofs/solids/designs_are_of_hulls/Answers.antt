use Rattle.source_laws.proofs.ShapeHulls.{designs_of_hulls}
use Rattle.source_laws.proofs.solids.designs_are_of_hulls.Goals as goal

pub returns : goal.returns
returns c = λ unit program judge turns design right gives.
    designs_of_hulls c.cubes_are_hulls_of_their_points.ensures c.cylinders_are_hulls_of_their_points.ensures c.extrusions_are_hulls_of_their_points.ensures c.hulls_are_hulls_of_their_points.ensures
    c.polyhedra_are_hulls_of_their_corners.ensures.faces unit judge right program turns design gives
