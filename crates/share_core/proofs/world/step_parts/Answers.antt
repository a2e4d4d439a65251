use Rattle.std.proofs.Common.{rules, refl, length, ◌<◌, ◌≡◌, ◌∙◌, ap, map, option_map, Some}
use Rattle.std.specs.Prelude.{slice_get}
use Rattle.std.proofs.lemmas.Option.{slice_get-map, slice_get_read}
use Rattle.share_core.specs.Views.{settled_memo}
use Rattle.share_core.specs.Fields.{part_of}
use Rattle.share_core.proofs.Lists.{map_set, ok_then, err_then}
use Rattle.share_core.proofs.Clients.{part_sound, parts_set, lifted, machine_stays, get_set_other}
use Rattle.share_core.proofs.world.step_parts.Goals as goal

at : (g : _) (c : goal.After-index_mut g) → slice_get (map part_of c.args.parts.now.items) c.args.event.client ≡ Some (part_of c.index_mut.result.now)
at g c =
    let lt : c.args.event.client < length c.args.parts.now.items = search rules in
    let here : slice_get c.args.parts.now.items c.args.event.client ≡ Some c.index_mut.result.now =
    slice_get_read c.args.parts.now.items (length c.args.parts.now.items) c.args.event.client c.index_mut.result.now refl lt c.index_mut.ensures.value in
    slice_get-map part_of c.args.parts.now.items c.args.event.client ∙ ap (option_map part_of) here

pub act-requires : goal.act-requires
act-requires g c = part_sound g.F.Fit.fits g.F.Fit.weighs (g.W.Work.tasks c.args.work.now) c.args.event.client (map part_of c.args.parts.now.items) (part_of c.index_mut.result.now) c.requires (at g c)

pub returns-clause-steps : goal.returns-clause-steps
returns-clause-steps g c =
    rw (map_set part_of c.args.parts.now.items c.args.event.client c.act.new.part)
    (ok_then c.act.result (λ s a. lifted g.F.Fit.same_key g.N.Namer.name_of g.F.Fit.fits g.F.Fit.weighs (g.W.Work.tasks c.args.work.now) c.args.event (settled_memo c.args.memo.now) (settled_memo c.act.new.memo) (map part_of c.args.parts.now.items) (part_of c.index_mut.result.now) (part_of c.act.new.part) s (at g c.before.before) a) c.act.ensures.acts)

pub returns-clause-sound : goal.returns-clause-sound
returns-clause-sound g c =
    rw (map_set part_of c.args.parts.now.items c.args.event.client c.act.new.part)
    (parts_set g.F.Fit.fits g.F.Fit.weighs (g.W.Work.tasks c.args.work.now) c.args.event.client (map part_of c.args.parts.now.items) (part_of c.act.new.part) c.requires c.act.ensures.sound)

pub returns-clause-others : goal.returns-clause-others
returns-clause-others g c client ne =
    ap (λ ps. slice_get ps client) (map_set part_of c.args.parts.now.items c.args.event.client c.act.new.part)
    ∙ get_set_other (map part_of c.args.parts.now.items) c.args.event.client (part_of c.act.new.part) client ne

pub returns-clause-err : goal.returns-clause-err
returns-clause-err g c =
    rw (map_set part_of c.args.parts.now.items c.args.event.client c.act.new.part)
    (err_then c.act.result (λ a. machine_stays (settled_memo c.args.memo.now) (settled_memo c.act.new.memo) (map part_of c.args.parts.now.items) c.args.event.client (part_of c.index_mut.result.now) (part_of c.act.new.part) (at g c.before.before) a.0 a.1) c.act.ensures.err)
