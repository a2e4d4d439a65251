use Rattle.std.proofs.Common.{rules, ◌≡◌, true}
use Rattle.std.specs.Arc.{arc_value}
use Rattle.share_core.specs.Fields.{part_of}
use Rattle.share_core.specs.Steps.{can_do, key_at}
use Rattle.share_core.specs.declared.event.Act.TheVariants.{Build}
use Rattle.share_core.proofs.Sound.{built_sound}
use Rattle.share_core.proofs.acts.build.Goals as goal

pub returns-clause-sound : goal.returns-clause-sound
returns-clause-sound g c =
    let can : can_do (g.W.Work.tasks c.args.work.now) c.args.client (Build c.args.node) (part_of c.args.part.now) ≡ true = search rules in
    let fits : g.F.Fit.fits (key_at (g.W.Work.tasks c.args.work.now) c.args.client c.args.node (part_of c.args.part.now)) (arc_value c.in-Some.value) = search rules in
    let weighs : c.in-Some.weight ≡ g.F.Fit.weighs (arc_value c.in-Some.value) = search rules in
    rw c.put_node.ensures (built_sound g.F.Fit.fits g.F.Fit.weighs (g.W.Work.tasks c.args.work.now) c.args.client (part_of c.args.part.now) c.requires (λ command node. g.met.W.Work.stays_ready c.args.work.now c.args.client command node) c.args.node (arc_value c.in-Some.value) c.in-Some.weight can fits weighs)
