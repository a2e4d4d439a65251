use Rattle.std.proofs.Common.{◌≡◌, take}
use Rattle.std.specs.List.{flat_map}
use Rattle.primitives.specs.DirectedEdges.{edges_of_mesh_face}
use Rattle.primitives.proofs.ways.ways_of_faces.Given as goal

abbrev pub invariant-loop-face : goal.invariant-loop-face
invariant-loop-face l = l.ways.items ≡ flat_map (edges_of_mesh_face l.points) (take l.face-index l.faces)
