use Rattle.std.proofs.Common.{rules, ◌≡◌, map, true, option_map, length}
use Rattle.std.specs.Arc.{arc_value}
use Rattle.share_core.specs.Fields.{part_of, values_of}
use Rattle.share_core.specs.Steps.{all_there}
use Rattle.share_core.proofs.Nodes.{there_all, have_fits}
use Rattle.share_core.proofs.Sound.{nodes_in}
use Rattle.share_core.proofs.acts.answer.Goals as goal

given : (g : _) (c : goal.After-have g) → map (λ v. option_map arc_value v) c.have.result.now ≡ values_of c.in-Some.nodes
given g c = search rules

all : (g : _) (c : goal.After-have g) → all_there c.in-Some.nodes ≡ true
all g c = search rules

pub reply-requires-clause-there : goal.reply-requires-clause-there
reply-requires-clause-there g c = rw (given g c) (there_all c.in-Some.nodes (all g c))

pub reply-requires-clause-fit : goal.reply-requires-clause-fit
reply-requires-clause-fit g c =
    let s = nodes_in g.F.Fit.fits g.F.Fit.weighs (g.W.Work.tasks c.args.work.now) c.args.client (part_of c.args.part.now) c.requires c.in-Some.nodes c.in-Some.is in
    rw (given g c) (rw c.command_of-command.ensures (have_fits g.F.Fit.fits g.F.Fit.weighs (g.W.Work.tasks c.args.work.now) c.args.client (length c.args.part.now.replies.items) (values_of c.in-Some.nodes) 0 c.in-Some.nodes s))
