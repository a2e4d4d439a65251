use Rattle.std.proofs.Common.{map}
use Rattle.plane_polygon.specs.Polygons.{corner, AreReducedFrom}
use Rattle.plane_predicate.specs.Indices.{indices_below}
use Rattle.plane_polygon.proofs.listing.corners_of.Given as goal

abbrev pub invariant-loop-i : goal.invariant-loop-i
invariant-loop-i l = AreReducedFrom (map (corner (record { plane = l.plane; edges = l.edges })) (indices_below l.i)) l.found.items
