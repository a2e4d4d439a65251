use Rattle.std.proofs.Common.{sym, subst}
use Rattle.share_core.specs.Fields.{AreSoundParts}
use Rattle.share_core.proofs.Clients.{nobodies_sound}
use Rattle.share_core.proofs.world.World.new.Goals as goal

pub invariant_of-result : goal.invariant_of-result
invariant_of-result g c =
    subst (AreSoundParts g.F.Fit.fits g.F.Fit.weighs (g.W.Work.tasks c.args.work) 0) (sym c.in_ok-parts.ensures)
    (nobodies_sound g.F.Fit.fits g.F.Fit.weighs (g.W.Work.tasks c.args.work) c.args.clients 0)
