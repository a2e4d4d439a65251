use Rattle.std.proofs.Common.{ℕ, ◌<◌, arith}
use Rattle.primitives.proofs.lemmas.Lists.{all_done, all_next}
use Rattle.primitives.proofs.counts.is_there.Goals as goal

pub loop-i-preserved : goal.loop-i-preserved
loop-i-preserved c =
    all_next (λ (i : ℕ). i < c.args.points) c.args.face.now c.loop-i.i-index 0 (omega arith) c.loop-i.invariant c.if-i-points.false

pub returns-clause-all : goal.returns-clause-all
returns-clause-all c =
    all_done (λ (i : ℕ). i < c.args.points) c.args.face.now c.loop-i.i-index (omega arith) c.loop-i.invariant
