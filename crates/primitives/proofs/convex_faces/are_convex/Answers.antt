use Rattle.std.proofs.Common.{◌∙◌, Bool, subst, arith}
use Rattle.std.specs.Bool.{OnTrue}
use Rattle.primitives.specs.Shapes.{Mesh}
use Rattle.primitives.proofs.lemmas.Lists.{all_done, all_next}
use Rattle.primitives.specs.Bounding.{IsFaceOfBody}
use Rattle.primitives.proofs.convex_faces.are_convex.Goals as goal

pub loop-face-preserved : goal.loop-face-preserved
loop-face-preserved c =
    let mesh : Mesh = record { points = c.args.points.now; faces = c.args.faces.now } in
    all_next (IsFaceOfBody mesh) c.args.faces.now c.loop-face.face-index c.face-item.result (omega arith) c.loop-face.invariant (subst (IsFaceOfBody mesh) (c.items.ensures ∙ c.face-item.is) (subst (λ (b : Bool). OnTrue b (IsFaceOfBody mesh c.items.result.now)) c.if-not-branch.false c.in_ok-is_bounded.ensures.all))

pub returns-clause-all : goal.returns-clause-all
returns-clause-all c =
    all_done (IsFaceOfBody (record { points = c.args.points.now; faces = c.args.faces.now })) c.args.faces.now c.loop-face.face-index (omega arith) c.loop-face.invariant
