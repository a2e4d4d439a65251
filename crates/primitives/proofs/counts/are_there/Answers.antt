use Rattle.std.proofs.Common.{ℕ, ◌<◌, List, All, ◌∙◌, arith, subst}
use Rattle.primitives.proofs.lemmas.Lists.{all_done, all_next}
use Rattle.primitives.proofs.counts.are_there.Goals as goal

pub loop-face-preserved : goal.loop-face-preserved
loop-face-preserved c =
    let P = (λ (f : List ℕ). All (λ (i : ℕ). i < c.args.points) f) in
    all_next P c.args.faces.now c.loop-face.face-index c.face-item.result (omega arith) c.loop-face.invariant (subst P (c.items.ensures ∙ c.face-item.is) c.if-not-is_there.ensures.all)

pub returns-clause-all : goal.returns-clause-all
returns-clause-all c =
    all_done (λ (f : List ℕ). All (λ (i : ℕ). i < c.args.points) f) c.args.faces.now c.loop-face.face-index (omega arith) c.loop-face.invariant
