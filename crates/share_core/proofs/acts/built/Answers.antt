use Rattle.std.proofs.Common.{rules, ◌≡◌, map, option_map, Some, length}
use Rattle.std.specs.Prelude.{slice_get}
use Rattle.std.specs.Arc.{arc_value}
use Rattle.share_core.specs.Views.{Missed}
use Rattle.share_core.specs.Fields.{part_of, values_of}
use Rattle.share_core.proofs.Nodes.{missed_at, sound_at, have_fits}
use Rattle.share_core.proofs.Sound.{nodes_in}
use Rattle.share_core.proofs.acts.built.Goals as goal

given : (g : _) (c : goal.After-have g) → map (λ v. option_map arc_value v) c.have.result.now ≡ values_of c.in-Some.nodes
given g c = search rules

command : (g : _) (c : goal.After-have g) → c.command_of-command.result ≡ length c.args.part.now.replies.items
command g c = c.command_of-command.ensures

missed : (g : _) (c : goal.After-have g) → slice_get c.in-Some.nodes c.args.node ≡ Some Missed
missed g c = missed_at c.in-Some.nodes c.args.node (search rules)

pub build-requires-clause-ready : goal.build-requires-clause-ready
build-requires-clause-ready g c =
    let s = nodes_in g.F.Fit.fits g.F.Fit.weighs (g.W.Work.tasks c.args.work.now) c.args.client (part_of c.args.part.now) c.requires c.in-Some.nodes c.in-Some.is in
    rw (given g c) (rw (command g c) (sound_at g.F.Fit.fits g.F.Fit.weighs (g.W.Work.tasks c.args.work.now) c.args.client (length c.args.part.now.replies.items) (values_of c.in-Some.nodes) c.args.node c.in-Some.nodes Missed s (missed g c)))

pub build-requires-clause-fit : goal.build-requires-clause-fit
build-requires-clause-fit g c =
    let s = nodes_in g.F.Fit.fits g.F.Fit.weighs (g.W.Work.tasks c.args.work.now) c.args.client (part_of c.args.part.now) c.requires c.in-Some.nodes c.in-Some.is in
    rw (given g c) (rw (command g c) (have_fits g.F.Fit.fits g.F.Fit.weighs (g.W.Work.tasks c.args.work.now) c.args.client (length c.args.part.now.replies.items) (values_of c.in-Some.nodes) 0 c.in-Some.nodes s))
