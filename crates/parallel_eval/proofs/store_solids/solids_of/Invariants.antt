use Rattle.std.proofs.Common.{◌-◌, length, sum_by}
use Rattle.parallel_eval.specs.Joins.{AreAsked}
use Rattle.parallel_eval.specs.Runs.{joins_to, AreReady, IsGrowing}
use Rattle.parallel_eval.proofs.store_solids.solids_of.Given as goal

-- the first nodes have their solids, and their joins were answered
abbrev pub invariant-loop-done : goal.invariant-loop-done
invariant-loop-done g l =
    let trees = l.fn.store in
    let builds = g.D.Builder.builds in record {
      growing : IsGrowing trees l.done l.growth;
      ready : AreReady builds (joins_to trees l.done) l.share.share l.builders;
      asked : AreAsked (Unit {0}) 0 (joins_to trees l.done) l.fn.share.share l.share.share (sum_by builds l.fn.builders) (sum_by builds l.builders);
    }

abbrev pub decreases-loop-done : goal.decreases-loop-done
decreases-loop-done g l = length l.fn.store - l.done
