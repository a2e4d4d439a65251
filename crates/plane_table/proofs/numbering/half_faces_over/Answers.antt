use Rattle.std.proofs.Common.{[], ◌∷◌, ◌++◌, map, take, sym, ap, subst, ◌∙◌}
use Rattle.std.proofs.lemmas.List.{take_more, map_push}
use Rattle.std.proofs.lemmas.List.Elements.{All-append, All-cons, All-nil}
use Rattle.plane_predicate.specs.Space.{Coefficients, IsPlane}
use Rattle.plane_polygon.specs.Boxes.{box_outline}
use Rattle.plane_table.proofs.Joins.{faces_more}
use Rattle.plane_table.proofs.numbering.half_faces_over.Goals as goal

pub loop-plane-preserved : goal.loop-plane-preserved
loop-plane-preserved c =
    let i = c.loop-plane.plane-index in
    let from = c.args.from.now in
    let plane = c.plane-item.result in
    let before = c.loop-plane.invariant in
    let own = c.in_ok-own.ensures.face in
    let next = take_more from i plane c.loop-plane-test.true ∙ ap (λ (m : Coefficients). take i from ++ m ∷ []) (sym c.plane-item.is) in
    let whole : IsPlane plane = c.planes_keep_their_form.ensures in
    let grown = faces_more c.loop-plane.planes.items c.in_ok-own.own.planes.items c.loop-plane.faces.items c.push.new.self.items c.in_ok-own.own.face (box_outline plane) (map box_outline (take i from))
    c.in_ok-own.ensures.keeps c.in_ok-push.ensures.items before.faces before.outlines own.face (own.outline ∙ c.in_ok-box_polygon.ensures.outline) in
    record {
      planes = rw next (All-append IsPlane (take i from) (plane ∷ []) before.planes (All-cons IsPlane plane [] whole (All-nil IsPlane)));
      apart = own.apart;
      faces = grown.0;
      outlines = grown.1 ∙ sym (ap (map box_outline) next ∙ map_push box_outline (take i from) plane);
    }
