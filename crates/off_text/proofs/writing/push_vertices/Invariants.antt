use Rattle.std.proofs.Common.{◌≡◌, ◌++◌, drop, flat_map}
use Rattle.off_text.specs.Reading.{vertex_line}
use Rattle.off_text.proofs.writing.push_vertices.Given as goal

abbrev pub invariant-loop-vertex : goal.invariant-loop-vertex
invariant-loop-vertex l = l.out.items ++ flat_map vertex_line (drop l.vertex-index l.vertices) ≡ l.initial.out.items ++ flat_map vertex_line l.vertices
