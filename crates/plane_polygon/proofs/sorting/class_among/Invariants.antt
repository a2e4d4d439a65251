use Rattle.std.proofs.Common.{◌≡◌, map}
use Rattle.plane_polygon.specs.Polygons.{corner}
use Rattle.plane_polygon.specs.Parts.{some_of, is_behind, is_ahead}
use Rattle.plane_polygon.proofs.sorting.class_among.Given as goal
use Rattle.plane_predicate.specs.Indices.{indices_below}

abbrev pub invariant-loop-i : goal.invariant-loop-i
invariant-loop-i l = record {
  behind : l.some_behind ≡ some_of (is_behind l.m) (map (corner (record { plane = l.plane; edges = l.edges })) (indices_below l.i));
  ahead : l.some_ahead ≡ some_of (is_ahead l.m) (map (corner (record { plane = l.plane; edges = l.edges })) (indices_below l.i));
}
