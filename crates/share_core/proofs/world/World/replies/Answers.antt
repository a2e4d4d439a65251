use Rattle.std.proofs.Common.{arith, refl, length, ◌<◌, ◌≡◌, ◌∙◌, ap, subst, map, option_map, Some}
use Rattle.std.specs.Prelude.{slice_get}
use Rattle.std.proofs.lemmas.Option.{slice_get-map, slice_get_read}
use Rattle.std.proofs.lemmas.List.{length-map}
use Rattle.share_core.specs.Views.{Machine}
use Rattle.share_core.specs.Fields.{part_of, IsSoundPart}
use Rattle.share_core.proofs.Clients.{part_sound}
use Rattle.share_core.proofs.world.World.replies.Goals as goal

sound : (g : _) (c : goal.After-as_slice g) → IsSoundPart g.F.Fit.fits g.F.Fit.weighs (g.W.Work.tasks c.args.self.now.0) c.args.client (part_of c.index.result.now)
sound g c =
    let l = ap (λ (x : g.row.W.Denot × Machine g.row.F-Key.Denot g.row.F-Value.Denot g.row.W-Reply.Denot). length x.1.parts) c.self.view_is in
    let lt : c.args.client < length c.self.inside.parts.items = omega (arith, l, c.requires, length-map c.self.inside.parts.items part_of) in
    let here : slice_get c.self.inside.parts.items c.args.client ≡ Some c.index.result.now =
    slice_get_read c.self.inside.parts.items (length c.self.inside.parts.items) c.args.client c.index.result.now refl lt c.index.ensures in
    subst (λ (w : g.row.W.Denot). IsSoundPart g.F.Fit.fits g.F.Fit.weighs (g.W.Work.tasks w) c.args.client (part_of c.index.result.now))
    (ap (λ (x : g.row.W.Denot × Machine g.row.F-Key.Denot g.row.F-Value.Denot g.row.W-Reply.Denot). x.0) c.self.view_is)
    (part_sound g.F.Fit.fits g.F.Fit.weighs (g.W.Work.tasks c.self.inside.work) c.args.client (map part_of c.self.inside.parts.items) (part_of c.index.result.now) c.self.invariant
    (slice_get-map part_of c.self.inside.parts.items c.args.client ∙ ap (option_map part_of) here))

pub returns-clause-answered : goal.returns-clause-answered
returns-clause-answered g c = rw c.as_slice.ensures.value (sound g c).answered

pub returns-clause-within : goal.returns-clause-within
returns-clause-within g c = rw c.as_slice.ensures.value (sound g c).within
