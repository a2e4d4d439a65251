use Rattle.std.proofs.Common.{map}
use Rattle.plane_predicate.specs.InUnits.{in_units}
use Rattle.plane_polygon.specs.Polygons.{corner, AreReducedFrom}
use Rattle.plane_predicate.specs.Indices.{indices_below}
use Rattle.off_text.proofs.corners.push_meetings.Given as goal

abbrev pub invariant-loop-i : goal.invariant-loop-i
invariant-loop-i l = AreReducedFrom (map (λ j. in_units l.unit (corner (record { plane = l.plane; edges = l.edges }) j)) (indices_below l.i)) l.corners.items
