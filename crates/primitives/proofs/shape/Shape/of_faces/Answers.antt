use Rattle.std.proofs.Common.{◌≡◌, ◌∙◌, sym, subst, arith}
use Rattle.std.proofs.lemmas.List.{take_all}
use Rattle.primitives.specs.Shapes.{IsShape, Mesh}
use Rattle.primitives.proofs.lemmas.ShapeBodies.{same_mesh, shape_of}
use Rattle.primitives.proofs.shape.Shape.of_faces.Goals as goal

pub of-requires-2 : goal.of-requires-2
of-requires-2 c =
    let mesh : Mesh = record { points = c.args.points.now; faces = c.args.faces.now } in
    let faces : c.loop-face.corners.items ≡ c.args.faces.now = c.loop-face.invariant ∙ take_all c.loop-face.face-index c.args.faces.now (omega arith) in
    subst IsShape (sym (same_mesh _ c.args.points.now _ c.args.faces.now c.in_ok-from_slice.ensures.items faces)) (shape_of mesh c.requires)

pub returns : goal.returns
returns c =
    let faces : c.loop-face.corners.items ≡ c.args.faces.now = c.loop-face.invariant ∙ take_all c.loop-face.face-index c.args.faces.now (omega arith) in
    c.of-2.ensures ∙ same_mesh _ c.args.points.now _ c.args.faces.now c.in_ok-from_slice.ensures.items faces
