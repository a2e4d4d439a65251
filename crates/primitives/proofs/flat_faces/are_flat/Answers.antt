use Rattle.std.proofs.Common.{◌∙◌, subst, arith}
use Rattle.primitives.proofs.lemmas.Lists.{all_done, all_next}
use Rattle.primitives.specs.Checks.{IsFlatFace}
use Rattle.primitives.proofs.flat_faces.are_flat.Goals as goal

pub loop-face-preserved : goal.loop-face-preserved
loop-face-preserved c =
    let P = IsFlatFace c.args.points.now in
    all_next P c.args.faces.now c.loop-face.face-index c.face-item.result (omega arith) c.loop-face.invariant (subst P (c.items.ensures ∙ c.face-item.is) c.if-not-is_flat.ensures.all)

pub returns-clause-all : goal.returns-clause-all
returns-clause-all c =
    all_done (IsFlatFace c.args.points.now) c.args.faces.now c.loop-face.face-index (omega arith) c.loop-face.invariant
