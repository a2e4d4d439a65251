use Rattle.std.proofs.Common.{rules, ◌≡◌, ◌∙◌, ap, subst, true}
use Rattle.std.specs.Prelude.{IfSome}
use Rattle.memo_core.specs.Fields.{value_in}
use Rattle.share_core.specs.Fields.{part_of}
use Rattle.share_core.specs.Steps.{can_do, key_at}
use Rattle.share_core.specs.declared.event.Act.TheVariants.{Probe}
use Rattle.share_core.proofs.Sound.{probed_sound}
use Rattle.share_core.proofs.acts.probe.Goals as goal

pub returns-clause-sound : goal.returns-clause-sound
returns-clause-sound g c =
    let can : can_do (g.W.Work.tasks c.args.work.now) c.args.client (Probe c.args.node) (part_of c.args.part.now) ≡ true = search rules in
    let fits : IfSome (value_in c.in_ok-probe.probe) (g.F.Fit.fits (key_at (g.W.Work.tasks c.args.work.now) c.args.client c.args.node (part_of c.args.part.now))) =
    subst (λ k. IfSome (value_in c.in_ok-probe.probe) (g.F.Fit.fits k)) (c.key.ensures ∙ ap (λ n. (g.W.Work.tasks c.args.work.now).key c.args.client n c.args.node) c.command_of-command.ensures) c.in_ok-probe.ensures.fits in
    rw c.put_node.ensures (rw c.found.ensures (probed_sound g.F.Fit.fits g.F.Fit.weighs (g.W.Work.tasks c.args.work.now) c.args.client (part_of c.args.part.now) c.requires (λ command node. g.met.W.Work.stays_ready c.args.work.now c.args.client command node) c.args.node (value_in c.in_ok-probe.probe) can fits))
