use Rattle.std.proofs.Common.{◌≡◌, ◌++◌, drop}
use Rattle.off_text.specs.Numbering.{with_points}
use Rattle.off_text.specs.FaceNumbers.{vertex_numbers}
use Rattle.off_text.proofs.numbering.push_numbers.Given as goal

abbrev pub invariant-loop-corner : goal.invariant-loop-corner
invariant-loop-corner l = record {
  vertices : with_points l.vertices.keys (drop l.corner-index l.corners) ≡ with_points l.initial.vertices.keys l.corners;
  numbers : l.numbers.items ++ vertex_numbers (with_points l.vertices.keys (drop l.corner-index l.corners)) (drop l.corner-index l.corners)
      ≡ l.initial.numbers.items ++ vertex_numbers (with_points l.initial.vertices.keys l.corners) l.corners;
}
