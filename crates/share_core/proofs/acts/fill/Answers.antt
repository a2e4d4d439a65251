use Rattle.std.proofs.Common.{rules, ◌≡◌}
use Rattle.std.specs.Arc.{arc_value}
use Rattle.share_core.specs.Views.{Built}
use Rattle.share_core.specs.Fields.{part_of}
use Rattle.share_core.proofs.Sound.{built_fits, node_within, filled_sound}
use Rattle.share_core.proofs.acts.fill.Goals as goal

pub offer-requires-clause-fits : goal.offer-requires-clause-fits
offer-requires-clause-fits g c =
    let b = built_fits g.F.Fit.fits g.F.Fit.weighs (g.W.Work.tasks c.args.work.now) c.args.client (part_of c.args.part.now) c.requires c.args.node (arc_value c.in-Some.given) c.in-Some.weight (search rules) in
    rw c.key.ensures (rw c.command_of-command.ensures b.0)

pub offer-requires-clause-weight : goal.offer-requires-clause-weight
offer-requires-clause-weight g c =
    (built_fits g.F.Fit.fits g.F.Fit.weighs (g.W.Work.tasks c.args.work.now) c.args.client (part_of c.args.part.now) c.requires c.args.node (arc_value c.in-Some.given) c.in-Some.weight (search rules)).1

pub put_node-requires : goal.put_node-requires
put_node-requires g c = node_within (part_of c.args.part.now) c.args.node (Built (arc_value c.in-Some.given) c.in-Some.weight) (search rules)

pub returns-clause-sound : goal.returns-clause-sound
returns-clause-sound g c =
    let kept : arc_value c.in-Some.kept ≡ arc_value c.in-Some.given = search rules in
    rw c.put_node.ensures (rw kept (filled_sound g.F.Fit.fits g.F.Fit.weighs (g.W.Work.tasks c.args.work.now) c.args.client (part_of c.args.part.now) c.requires (λ command node. g.met.W.Work.stays_ready c.args.work.now c.args.client command node) c.args.node (arc_value c.in-Some.given) c.in-Some.weight (search rules)))
