use Rattle.std.proofs.Common.{◌≡◌, ◌++◌}
use Rattle.std.specs.List.{flat_map}
use Rattle.primitives.specs.DirectedEdges.{edge_at_place}
use Rattle.primitives.proofs.ways.push_ways.Given as goal
use Rattle.plane_predicate.specs.Indices.{indices_below}

abbrev pub invariant-loop-k : goal.invariant-loop-k
invariant-loop-k l = l.ways.items ≡ l.fn.ways.items ++ flat_map (edge_at_place l.points l.face) (indices_below l.k)
