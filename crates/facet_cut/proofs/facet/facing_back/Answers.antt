use Rattle.std.proofs.Common.{◌≡◌, List, reverse, sym, ap, ◌∙◌, subst₂}
use Rattle.plane_predicate.specs.Space.{Coefficients, opposite_of}
use Rattle.plane_polygon.specs.Polygons.{IsPolygon}
use Rattle.facet_cut.proofs.Reversals.{reversed_polygon}
use Rattle.facet_cut.proofs.facet.facing_back.Goals as goal

pub of_edges-requires : goal.of_edges-requires
of_edges-requires c =
    let s = c.args.polygon in
    let plane : c.opposite-plane.result ≡ opposite_of s.plane = c.opposite-plane.ensures.numbers ∙ ap opposite_of c.plane.ensures in
    let edges : c.reverse.new.self.items ≡ reverse s.edges = c.reverse.ensures.items ∙ ap reverse c.into_edges-edges.ensures in
    subst₂ (λ (m : Coefficients) (es : List Coefficients). IsPolygon (record { plane = m; edges = es }))
    (sym plane) (sym edges)
    (reversed_polygon s c.polygons_keep_their_form.ensures)
