use Rattle.std.proofs.Common.{◌≡◌, ◌≤◌, length, get_or, map}
use Rattle.plane_predicate.specs.Space.{Coefficients}
use Rattle.plane_predicate.specs.Lines.{IsAxisOf, IsLinePlaceOf}
use Rattle.plane_polygon.specs.Polygons.{corner}
use Rattle.plane_predicate.specs.Indices.{indices_below}
use Rattle.plane_table.specs.Tables.{plane_named}
use Rattle.plane_table.specs.Faces.{outline_of, side_against}
use Rattle.plane_table.proofs.lining.corners_along.Given as goal

abbrev pub invariant-loop-i : goal.invariant-loop-i
invariant-loop-i l = record {
  found : (m : Coefficients) → IsAxisOf (plane_named l.table l.face.plane) m l.line → l.found.items ≡ map (λ i. side_against m (corner (outline_of l.table l.face) i)) (indices_below l.i);
  ends : IsLinePlaceOf (plane_named l.table (get_or l.face.edges l.i 0)) l.line l.ends;
  count : length l.found.items ≡ l.i;
  room : length l.face.edges ≤ l.found.capacity;
}
