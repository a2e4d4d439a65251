use Rattle.std.proofs.Common.{rules, refl, ◌≡◌, ◌∙◌, ◌<◌, ap, sym, subst, [], take, length, get_or}
use Rattle.memo_core.specs.Memo.{IsLegal, replay}
use Rattle.memo_core.specs.Views.{headers_in}
use Rattle.std.proofs.lemmas.List.{take_more, length-replicate}
use Rattle.share_core.specs.Views.{Machine}
use Rattle.share_core.specs.Fields.{no_client_part}
use Rattle.share_core.specs.Steps.{TellsIfTaken, StepsMachine, is_possible, first_machine}
use Rattle.share_core.specs.Runs.{RunLeaves}
use Rattle.share_core.specs.declared.event.Event.{Event}
use Rattle.share_core.specs.declared.event.Act.TheVariants.{Command}
use Rattle.share_core.proofs.Whole.{first_leaves, run_more, run_limits}
use Rattle.share_core.proofs.world.run.Goals as goal

pub loop-event-init : goal.loop-event-init
loop-event-init g c = (
  c.in_ok-world.ensures.work,
  ap (λ (x : Machine g.row.F-Key.Denot g.row.F-Value.Denot g.row.W-Reply.Denot). length x.parts) c.in_ok-world.ensures.first ∙ length-replicate c.args.clients no_client_part,
  ([], (refl, c.in_ok-world.ensures.first), subst (RunLeaves (g.W.Work.tasks c.args.work) []) (sym c.in_ok-world.ensures.first) (first_leaves g.F.Fit.same_key g.N.Namer.name_of g.F.Fit.fits g.F.Fit.weighs (g.W.Work.tasks c.args.work) c.args.clients c.args.budget c.args.share)),
)

abbrev none : Event
none = record { client = 0; act = Command }

pub loop-event-preserved : goal.loop-event-preserved
loop-event-preserved g c =
    let lt : c.loop-event.event-index < length c.args.events.now = search rules in
    let e : Event = get_or c.args.events.now c.loop-event.event-index none in (
      c.in_ok-step.ensures.work ∙ c.loop-event.invariant.0,
      c.in_ok-step.ensures.clients ∙ c.loop-event.invariant.1,
      rw (take_more c.args.events.now c.loop-event.event-index none lt)
          (run_more g.F.Fit.same_key g.N.Namer.name_of g.F.Fit.fits g.F.Fit.weighs (g.W.Work.tasks c.args.work) (first_machine c.args.clients c.args.budget c.args.share) (take c.loop-event.event-index c.args.events.now) c.loop-event.world.1 e c.step.new.self.1 c.in_ok-step.field-0
          (subst (λ w. TellsIfTaken (is_possible (g.W.Work.tasks w) c.loop-event.world.1 e) (StepsMachine g.F.Fit.same_key g.N.Namer.name_of g.F.Fit.fits g.F.Fit.weighs (g.W.Work.tasks w) c.loop-event.world.1 e c.step.new.self.1) (c.step.new.self.1 ≡ c.loop-event.world.1) c.in_ok-step.field-0) c.loop-event.invariant.0 c.in_ok-step.ensures.steps)
          c.loop-event.invariant.2),
    )

limits_are : (g : _) (c : goal.After-journal-journal g) → (c.loop-event.world.1.memo.budget ≡ c.args.budget) × (c.loop-event.world.1.memo.share ≡ c.args.share)
limits_are g c =
    run_limits g.F.Fit.same_key g.N.Namer.name_of g.F.Fit.fits g.F.Fit.weighs (g.W.Work.tasks c.args.work) (first_machine c.args.clients c.args.budget c.args.share)
    (take c.loop-event.event-index c.args.events.now) c.loop-event.invariant.2.0 c.loop-event.world.1 c.loop-event.invariant.2.1

pub returns-clause-legal : goal.returns-clause-legal
returns-clause-legal g c =
    subst (λ b. IsLegal g.F.Fit.same_key g.N.Namer.name_of b c.args.share [] c.loop-event.world.1.memo.journal) (limits_are g c).0
    (subst (λ h. IsLegal g.F.Fit.same_key g.N.Namer.name_of c.loop-event.world.1.memo.budget h [] c.loop-event.world.1.memo.journal) (limits_are g c).1 c.journal-journal.ensures.legal)

pub returns-clause-replayed : goal.returns-clause-replayed
returns-clause-replayed g c =
    subst (λ b. headers_in c.loop-event.world.1.memo.entries ≡ replay g.F.Fit.same_key g.N.Namer.name_of b c.args.share [] c.loop-event.world.1.memo.journal) (limits_are g c).0
    (subst (λ h. headers_in c.loop-event.world.1.memo.entries ≡ replay g.F.Fit.same_key g.N.Namer.name_of c.loop-event.world.1.memo.budget h [] c.loop-event.world.1.memo.journal) (limits_are g c).1 c.journal-journal.ensures.replayed)
