use Rattle.std.proofs.Common.{ℕ, pos, ◌≤ℤ◌, arith}
use Rattle.primitives.specs.Shapes.{value_at_point}
use Rattle.primitives.proofs.lemmas.Lists.{all_done, all_next}
use Rattle.primitives.proofs.ahead.face_has_ahead.Goals as goal

pub loop-i-preserved : goal.loop-i-preserved
loop-i-preserved c =
    all_next (λ (i : ℕ). value_at_point c.args.points.now c.args.plane.now i ≤ℤ pos 0) c.args.face.now c.loop-i.i-index 0 (omega arith) c.loop-i.invariant c.if-is_ahead.ensures.none

pub returns-clause-none : goal.returns-clause-none
returns-clause-none c =
    all_done (λ (i : ℕ). value_at_point c.args.points.now c.args.plane.now i ≤ℤ pos 0) c.args.face.now c.loop-i.i-index (omega arith) c.loop-i.invariant
