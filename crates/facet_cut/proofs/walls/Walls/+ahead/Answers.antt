use Rattle.std.proofs.Common.{◌≡◌, List, Ok, Err, rules, sym, subst, ◌∙◌}
use Rattle.plane_polygon.specs.Polygons.{Outline}
use Rattle.plane_table.specs.Tables.{plane_named}
use Rattle.plane_table.specs.Faces.{outline_of}
use Rattle.plane_table.specs.Cuts.{part_in}
use Rattle.facet_cut.specs.Facets.{Piece, facets_facing}
use Rattle.facet_cut.specs.Adding.{AddsFacetsWithin}
use Rattle.facet_cut.proofs.Nodes.{end_pieces, across_node, adds_more, adds_none, adds_stopped, same_leaf_facets}
use Rattle.facet_cut.proofs.walls.Walls.+ahead.Goals as goal

pub push_ahead-returns-in-End : goal.push_ahead-returns-in-End
push_ahead-returns-in-End t c =
    let w = c.args.self.now in
    rw (c.in-End.is, end_pieces (λ (r : Piece). facets_facing c.args.is_inside r.is_inside r.part) w.table.now w.forest.now.nodes c.in-End.is_ahead_inside (outline_of w.table.now c.args.face.now))
    c.push_wall.ensures

pub push_ahead-sides_where_across-requires-clause-number : goal.push_ahead-sides_where_across-requires-clause-number
push_ahead-sides_where_across-requires-clause-number t c = (c.requires.faces.each _ _ c.at-low.ensures.node).plane

pub push_ahead-push_half-requires : goal.push_ahead-push_half-requires
push_ahead-push_half-requires t c = (
  search rules,
  (
    c.requires.faces,
    (
      search rules,
      (
        record {
          face = c.requires.face;
          number = (c.requires.faces.each _ _ c.at-low.ensures.node).plane;
          sides = c.in_ok-of_face-in-To.ensures;
          across = c.in-Across.is;
        },
        search rules,
      ),
    ),
  ),
)

pub push_ahead-push_half-requires-in-Across : goal.push_ahead-push_half-requires-in-Across
push_ahead-push_half-requires-in-Across t c = (
  search rules,
  (
    c.requires.faces,
    (
      search rules,
      (
        record {
          face = c.requires.face;
          number = (c.requires.faces.each _ _ c.at-low.ensures.node).plane;
          sides = c.in_ok-of_face-in-To.ensures;
          across = c.in-Across.is;
        },
        search rules,
      ),
    ),
  ),
)

pub push_ahead-returns-in_err-push_half-in-Across : goal.push_ahead-returns-in_err-push_half-in-Across
push_ahead-returns-in_err-push_half-in-Across t c =
    let stop = c.in_err-push_half-in-Across.field-0.0 in
    let given : c.from_residual-in_err-push_half-in-Across.result ≡ Err stop = search rules in
    let stopped : c.push_half.result ≡ Err stop = search rules in
    let across = across_node (λ (r : Piece). facets_facing c.args.is_inside r.is_inside r.part) _ _ c.args.ahead _ _ c.args.face.now _ _ _
    c.in-To.is c.at-low.ensures c.in_ok-of_face-in-To.ensures c.in-Across.is in
    subst (λ (more : List Outline). AddsFacetsWithin more c.args.most c.args.found.now.items c.push_half.new.found.items c.from_residual-in_err-push_half-in-Across.result) (sym across)
    (adds_stopped _ _ c.args.most c.args.found.now.items c.push_half.new.found.items stop c.push_half.result c.from_residual-in_err-push_half-in-Across.result stopped given c.push_half.ensures)

pub push_ahead-returns : goal.push_ahead-returns
push_ahead-returns t c =
    let across = across_node (λ (r : Piece). facets_facing c.args.is_inside r.is_inside r.part) _ _ c.args.ahead _ _ c.args.face.now _ _ _
    c.in-To.is c.at-low.ensures c.in_ok-of_face-in-To.ensures c.in-Across.is in
    subst (λ (more : List Outline). AddsFacetsWithin more c.args.most c.args.found.now.items c.push_half-in-Across.new.found.items c.push_half-in-Across.result) (sym across)
    (adds_more _ _ c.args.most c.args.found.now.items c.push_half.new.found.items _ c.push_half-in-Across.result
    c.in_ok-push_half-in-Across.ensures.0 c.push_half-in-Across.ensures)

pub push_half-returns-then-is_same_leaf : goal.push_half-returns-then-is_same_leaf
push_half-returns-then-is_same_leaf t c =
    let w = c.args.self.now in
    let crossing = c.args.crossing in
    let s = part_in c.args.half (outline_of w.table.now crossing.face.now) (plane_named w.table.now crossing.number) in
    let none = same_leaf_facets w.table.now w.forest.now.nodes c.args.is_inside c.args.ahead s (sym c.is_same_leaf.ensures ∙ c.if-is_same_leaf.true) in
    subst (λ (more : List Outline). AddsFacetsWithin {A = Unit {0}} more c.args.most c.args.found.now.items c.args.found.now.items (Ok (tt {0}))) (sym none)
    (adds_none c.args.most c.args.found.now.items (tt {0}) c.requires.within)
