use Rattle.off_text.proofs.lemmas.Bounds.Vertices.{few_vertices}
use Rattle.off_text.proofs.laws.vertices_are_corners.Goals as goal

pub returns : goal.returns
returns c = few_vertices
