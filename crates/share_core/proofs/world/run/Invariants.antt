use Rattle.std.proofs.Common.{◌≡◌, List, take, length}
use Rattle.share_core.specs.Steps.{first_machine}
use Rattle.share_core.specs.Runs.{Runs, RunLeaves}
use Rattle.share_core.specs.declared.event.Event.{Event}
use Rattle.share_core.proofs.world.run.Given as goal

abbrev pub invariant-loop-event : goal.invariant-loop-event
invariant-loop-event g l =
    (l.world.0 ≡ l.fn.work) × (length l.world.1.parts ≡ l.fn.clients)
    × ((taken : List Event)
    × Runs g.F.Fit.same_key g.N.Namer.name_of g.F.Fit.fits g.F.Fit.weighs (g.W.Work.tasks l.fn.work) (first_machine l.fn.clients l.fn.budget l.fn.share) (take l.event-index l.events) taken l.world.1
    × RunLeaves (g.W.Work.tasks l.fn.work) taken l.world.1)
