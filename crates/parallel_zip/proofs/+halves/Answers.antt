use Rattle.std.proofs.Common.{arith, sym, ◌∙◌}
use Rattle.parallel_zip.proofs.Halves.{ready_length, ready_at, worked_at}
use Rattle.parallel_zip.proofs.+halves.Goals as goal

pub work_each-split_at_mut-left-requires : goal.work_each-split_at_mut-left-requires
work_each-split_at_mut-left-requires g t c = let e = ready_length (g.W.PairWork.ready c.args.how.now) c.args.first.now c.args.second.now c.requires in omega arith

pub work_each-both_halves-requires-clause-front : goal.work_each-both_halves-requires-clause-front
work_each-both_halves-requires-clause-front g t c κs within =
    (ready_at (g.W.PairWork.ready c.args.how.now) _ _ _ _ _ _ c.split_at_mut-low.ensures.value c.split_at_mut-left.ensures.value (c.split_at_mut-low.ensures.front_len ∙ sym c.split_at_mut-left.ensures.front_len) c.requires).0

pub work_each-both_halves-requires-clause-back : goal.work_each-both_halves-requires-clause-back
work_each-both_halves-requires-clause-back g t c κs within =
    (ready_at (g.W.PairWork.ready c.args.how.now) _ _ _ _ _ _ c.split_at_mut-low.ensures.value c.split_at_mut-left.ensures.value (c.split_at_mut-low.ensures.front_len ∙ sym c.split_at_mut-left.ensures.front_len) c.requires).1

pub work_each-returns : goal.work_each-returns
work_each-returns g t c =
    worked_at (g.W.PairWork.worked c.args.how.now) _ _ _ _ _ _ _ _ _ _ c.split_at_mut-low.ensures.value c.split_at_mut-left.ensures.value c.both_halves.ensures.front c.both_halves.ensures.back
