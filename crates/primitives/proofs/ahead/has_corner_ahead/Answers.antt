use Rattle.std.proofs.Common.{ℕ, List, pos, ◌≤ℤ◌, arith, ◌∙◌, subst, All}
use Rattle.primitives.specs.Shapes.{value_at_point}
use Rattle.primitives.proofs.lemmas.Lists.{all_done, all_next}
use Rattle.primitives.proofs.ahead.has_corner_ahead.Goals as goal

pub loop-face-preserved : goal.loop-face-preserved
loop-face-preserved c =
    let P = (λ (f : List ℕ). All (λ (i : ℕ). value_at_point c.args.points.now c.args.plane.now i ≤ℤ pos 0) f) in
    all_next P c.args.faces.now c.loop-face.face-index c.face-item.result (omega arith) c.loop-face.invariant (subst P (c.items.ensures ∙ c.face-item.is) c.if-face_has_ahead.ensures.none)

pub returns-clause-none : goal.returns-clause-none
returns-clause-none c =
    all_done (λ (f : List ℕ). All (λ (i : ℕ). value_at_point c.args.points.now c.args.plane.now i ≤ℤ pos 0) f) c.args.faces.now c.loop-face.face-index (omega arith) c.loop-face.invariant
