use Rattle.std.proofs.Common.{◌≡◌, ◌<◌, length, get_or, map, IfSome}
use Rattle.plane_polygon.specs.Polygons.{corner}
use Rattle.plane_polygon.specs.Parts.{some_of, is_behind, is_ahead}
use Rattle.plane_polygon.specs.Parallels.{HasAllOn}
use Rattle.plane_table.specs.Tables.{plane_named}
use Rattle.plane_table.specs.Faces.{outline_of, side_against}
use Rattle.plane_table.proofs.sorting.sides.Given as goal
use Rattle.plane_predicate.specs.Indices.{indices_below}

abbrev pub invariant-loop-i : goal.invariant-loop-i
invariant-loop-i l = record {
  behind : l.some_behind ≡ some_of (is_behind (plane_named l.table l.number)) (map (corner (outline_of l.table l.face)) (indices_below l.i));
  ahead : l.some_ahead ≡ some_of (is_ahead (plane_named l.table l.number)) (map (corner (outline_of l.table l.face)) (indices_below l.i));
  corners : l.corners.items ≡ map (λ i. side_against (plane_named l.table l.number) (corner (outline_of l.table l.face) i)) (indices_below l.i);
  ends : l.i < length l.face.edges → IfSome l.ends (HasAllOn (plane_named l.table (get_or l.face.edges l.i 0)) (plane_named l.table l.number));
}
