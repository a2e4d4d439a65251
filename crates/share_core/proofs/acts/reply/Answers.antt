use Rattle.std.proofs.Common.{rules, ◌≡◌, length, true}
use Rattle.share_core.specs.Fields.{part_of}
use Rattle.share_core.specs.Steps.{can_do}
use Rattle.share_core.specs.declared.event.Act.TheVariants.{Reply}
use Rattle.share_core.proofs.Sound.{replied_sound, answering}
use Rattle.share_core.proofs.acts.reply.Goals as goal

pub returns-clause-sound : goal.returns-clause-sound
returns-clause-sound g c =
    let can : can_do (g.W.Work.tasks c.args.work.now) c.args.client Reply (part_of c.args.part.now) ≡ true = search rules in
    let said : c.in-Some.reply ≡ (g.W.Work.tasks c.args.work.now).reply c.args.client (length c.args.part.now.replies.items) = search rules in
    rw c.in_ok-push.ensures.items (rw said (replied_sound g.F.Fit.fits g.F.Fit.weighs (g.W.Work.tasks c.args.work.now) c.args.client (part_of c.args.part.now) c.requires (answering g.F.Fit.fits g.F.Fit.weighs (g.W.Work.tasks c.args.work.now) c.args.client (part_of c.args.part.now) c.requires can)))
