use Rattle.std.proofs.Common.{◌≡◌, flat_map, length}
use Rattle.plane_predicate.specs.Space.{value, opposite_of}
use Rattle.plane_predicate.specs.Sides.{side_of}
use Rattle.plane_polygon.specs.Polygons.{corner}
use Rattle.plane_polygon.specs.Parts.{edges_kept_at, index_before}
use Rattle.plane_polygon.proofs.cutting.part_edges.Given as goal
use Rattle.plane_predicate.specs.Indices.{indices_below}

abbrev pub invariant-loop-i : goal.invariant-loop-i
invariant-loop-i l = record {
  behind : l.behind.items ≡ flat_map (edges_kept_at (record { plane = l.plane; edges = l.edges }) l.m) (indices_below l.i);
  ahead : l.ahead.items ≡ flat_map (edges_kept_at (record { plane = l.plane; edges = l.edges }) (opposite_of l.m)) (indices_below l.i);
  from : l.from ≡ side_of (value l.m (corner (record { plane = l.plane; edges = l.edges }) (index_before (length l.edges) l.i)));
}
