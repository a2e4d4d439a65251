use Rattle.off_text.specs.Reading.{vertex_line}
use Rattle.off_text.proofs.Pieces.{all_written}
use Rattle.off_text.proofs.writing.push_vertices.Goals as goal

pub returns : goal.returns
returns c = all_written vertex_line c.args.vertices.now c.loop-vertex.vertex-index _ _ c.loop-vertex-test.false c.loop-vertex.invariant
