use Rattle.std.proofs.Common.{length, List, ℕ}
use Rattle.memo_core.specs.declared.slots.Slot.{Slot}
use Rattle.memo_core.proofs.Walks.{IsWalk}
use Rattle.memo_core.proofs.plan.makes_room.Given as goal

abbrev pub invariant-loop-plan : goal.invariant-loop-plan
invariant-loop-plan g l = (behind : List (List ℕ × Slot g.row.K.Denot g.row.V.Denot)) × IsWalk l.limits.budget l.limits.share l.name l.slot l.cache.entries l.rest behind l.plan

abbrev pub decreases-loop-plan : goal.decreases-loop-plan
decreases-loop-plan g l = length l.rest
