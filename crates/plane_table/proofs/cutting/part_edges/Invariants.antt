use Rattle.std.proofs.Common.{◌≡◌, flat_map, length, get_or}
use Rattle.plane_polygon.specs.Parts.{index_before}
use Rattle.plane_table.specs.Cuts.{is_strictly_in_half, numbers_kept_at, on_the_plane}
use Rattle.plane_table.proofs.cutting.part_edges.Given as goal
use Rattle.plane_predicate.specs.Indices.{indices_below}

abbrev pub invariant-loop-i : goal.invariant-loop-i
invariant-loop-i l = record {
  kept : l.kept ≡ flat_map (numbers_kept_at l.half l.edges l.fn.number l.corners) (indices_below l.i);
  from : l.from ≡ is_strictly_in_half l.half (get_or l.corners (index_before (length l.edges) l.i) on_the_plane);
}
