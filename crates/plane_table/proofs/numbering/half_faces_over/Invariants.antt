use Rattle.std.proofs.Common.{◌≡◌, All, map, take}
use Rattle.plane_predicate.specs.Space.{IsPlane}
use Rattle.plane_polygon.specs.Boxes.{box_outline}
use Rattle.plane_table.specs.Tables.{HasNoTwoAlike}
use Rattle.plane_table.specs.Faces.{outline_of, IsFaceOver}
use Rattle.plane_table.proofs.numbering.half_faces_over.Given as goal

abbrev pub invariant-loop-plane : goal.invariant-loop-plane
invariant-loop-plane l = record {
  planes : All IsPlane (take l.plane-index l.from);
  apart : HasNoTwoAlike l.planes.items;
  faces : All (IsFaceOver l.planes.items) l.faces.items;
  outlines : map (outline_of l.planes.items) l.faces.items ≡ map box_outline (take l.plane-index l.from);
}
