use Rattle.std.proofs.Common.{◌∙◌, ap}
use Rattle.std.specs.List.{list_any}
use Rattle.scad_hull.specs.Hulls.{shares_plane}
use Rattle.scad_hull.proofs.lemmas.Loops.{kept_supported, pushed}
use Rattle.scad_hull.proofs.PlaneRows.{found_push}
use Rattle.scad_hull.proofs.faces.push_triple.Goals as goal

pub returns-then-is_listed-clause-faces : goal.returns-then-is_listed-clause-faces
returns-then-is_listed-clause-faces c =
    let among = c.is_listed.ensures ∙ ap (list_any (λ s. shares_plane c.args.points.now s c.args.triple)) c.deref.ensures.value in
    kept_supported c.args.points.now c.args.found.now.faces.items c.args.triple c.is_listed.result among c.if-is_listed.true

pub returns-clause-faces : goal.returns-clause-faces
returns-clause-faces c =
    let among = c.is_listed.ensures ∙ ap (list_any (λ s. shares_plane c.args.points.now s c.args.triple)) c.deref.ensures.value in
    c.in_ok-push.ensures.items
    ∙ pushed c.args.points.now c.args.found.now.faces.items c.args.triple c.supports.result c.is_listed.result c.supports.ensures c.if-not-supports.false among c.if-is_listed.false

pub returns-clause-found : goal.returns-clause-found
returns-clause-found c =
    found_push c.args.points.now c.args.found.now (record { faces = c.push.new.self; rows = c.push-2.new.self }) c.args.triple c.row_of.result
    c.in_ok-push.ensures.items c.in_ok-push-2.ensures.items c.requires.three c.row_of.ensures c.requires.found
