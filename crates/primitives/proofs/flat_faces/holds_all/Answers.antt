use Rattle.std.proofs.Common.{◌≡◌, ℕ, pos, arith}
use Rattle.primitives.specs.Shapes.{value_at_point}
use Rattle.primitives.proofs.lemmas.Lists.{all_done, all_next}
use Rattle.primitives.proofs.flat_faces.holds_all.Goals as goal

pub loop-i-preserved : goal.loop-i-preserved
loop-i-preserved c =
    all_next (λ (i : ℕ). value_at_point c.args.points.now c.args.plane.now i ≡ pos 0) c.args.face.now c.loop-i.i-index 0 (omega arith) c.loop-i.invariant c.if-not-goes_through.ensures.on

pub returns-clause-all : goal.returns-clause-all
returns-clause-all c =
    all_done (λ (i : ℕ). value_at_point c.args.points.now c.args.plane.now i ≡ pos 0) c.args.face.now c.loop-i.i-index (omega arith) c.loop-i.invariant
