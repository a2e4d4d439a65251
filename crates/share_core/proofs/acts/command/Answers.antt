use Rattle.std.proofs.Common.{rules, ◌∙◌, ◌<◌, ap, length, replicate}
use Rattle.share_core.specs.Views.{Unasked}
use Rattle.share_core.specs.Fields.{part_of}
use Rattle.share_core.proofs.Sound.{begun_sound}
use Rattle.share_core.proofs.acts.command.Goals as goal

pub returns-clause-sound : goal.returns-clause-sound
returns-clause-sound g c =
    let lt : length c.args.part.now.replies.items < (g.W.Work.tasks c.args.work.now).commands c.args.client = search rules in
    rw (c.in_ok-nodes.ensures ∙ ap (λ n. replicate n Unasked) (c.nodes.ensures ∙ ap ((g.W.Work.tasks c.args.work.now).nodes c.args.client) c.command_of-command.ensures))
    (begun_sound g.F.Fit.fits g.F.Fit.weighs (g.W.Work.tasks c.args.work.now) c.args.client (part_of c.args.part.now) c.requires lt)
