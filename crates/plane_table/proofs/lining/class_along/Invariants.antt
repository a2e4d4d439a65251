use Rattle.std.proofs.Common.{◌≡◌, get_or, map}
use Rattle.plane_predicate.specs.Space.{Coefficients}
use Rattle.plane_predicate.specs.Lines.{IsAxisOf, IsLinePlaceOf}
use Rattle.plane_polygon.specs.Polygons.{corner}
use Rattle.plane_polygon.specs.Parts.{some_of, is_behind, is_ahead}
use Rattle.plane_table.specs.Tables.{plane_named}
use Rattle.plane_table.specs.Faces.{outline_of}
use Rattle.plane_table.proofs.lining.class_along.Given as goal
use Rattle.plane_predicate.specs.Indices.{indices_below}

abbrev pub invariant-loop-i : goal.invariant-loop-i
invariant-loop-i l = record {
  behind : (m : Coefficients) → IsAxisOf (plane_named l.table l.face.plane) m l.line → l.some_behind ≡ some_of (is_behind m) (map (corner (outline_of l.table l.face)) (indices_below l.i));
  ahead : (m : Coefficients) → IsAxisOf (plane_named l.table l.face.plane) m l.line → l.some_ahead ≡ some_of (is_ahead m) (map (corner (outline_of l.table l.face)) (indices_below l.i));
  ends : IsLinePlaceOf (plane_named l.table (get_or l.face.edges l.i 0)) l.line l.ends;
}
