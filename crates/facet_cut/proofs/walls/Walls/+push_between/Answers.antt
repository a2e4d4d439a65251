use Rattle.std.proofs.Common.{◌≡◌, List, Err, rules, sym, subst}
use Rattle.plane_polygon.specs.Polygons.{Outline}
use Rattle.plane_table.specs.Faces.{outline_of}
use Rattle.bsp_tree.specs.Shapes.{tree_at_link}
use Rattle.facet_cut.specs.Facets.{Piece, facets_ahead}
use Rattle.facet_cut.specs.Adding.{AddsFacetsWithin}
use Rattle.facet_cut.proofs.Nodes.{end_pieces, across_node, adds_more, adds_stopped}
use Rattle.facet_cut.proofs.walls.Walls.+push_between.Goals as goal

pub returns-in-End : goal.returns-in-End
returns-in-End t c =
    let w = c.args.self.now in
    rw (c.in-End.is, end_pieces (λ (r : Piece). facets_ahead r.is_inside (tree_at_link c.args.self.now.table.now c.args.self.now.forest.now.nodes c.args.ahead) r.part) w.table.now w.forest.now.nodes c.in-End.is_inside (outline_of w.table.now c.args.face.now))
    c.push_ahead.ensures

pub sides_where_across-requires-clause-number : goal.sides_where_across-requires-clause-number
sides_where_across-requires-clause-number t c = (c.requires.faces.each _ _ c.at-low.ensures.node).plane

pub cut-requires : goal.cut-requires
cut-requires t c = record {
  face = c.requires.face;
  number = (c.requires.faces.each _ _ c.at-low.ensures.node).plane;
  sides = c.in_ok-of_face-in-To.ensures;
  across = c.in-Across.is;
}

pub cut-requires-in-Across : goal.cut-requires-in-Across
cut-requires-in-Across t c = record {
  face = c.requires.face;
  number = (c.requires.faces.each _ _ c.at-low.ensures.node).plane;
  sides = c.in_ok-of_face-in-To.ensures;
  across = c.in-Across.is;
}

pub returns-in_err-push_between-in-Across : goal.returns-in_err-push_between-in-Across
returns-in_err-push_between-in-Across t c =
    let w = c.args.self.now in
    let stop = c.in_err-push_between-in-Across.field-0.0 in
    let given : c.from_residual-in_err-push_between-in-Across.result ≡ Err stop = search rules in
    let stopped : c.push_between-in-Across.result ≡ Err stop = search rules in
    let across = across_node (λ (r : Piece). facets_ahead r.is_inside (tree_at_link w.table.now w.forest.now.nodes c.args.ahead) r.part) _ _ c.args.behind _ _ c.args.face.now _ _ _
    c.in-To.is c.at-low.ensures c.in_ok-of_face-in-To.ensures c.in-Across.is in
    let low = rw c.in_ok-part-in-Across.ensures.outline at c.push_between-in-Across.ensures in
    subst (λ (more : List Outline). AddsFacetsWithin more c.args.most c.args.found.now.items c.push_between-in-Across.new.found.items c.from_residual-in_err-push_between-in-Across.result) (sym across)
    (adds_stopped _ _ c.args.most c.args.found.now.items c.push_between-in-Across.new.found.items stop c.push_between-in-Across.result c.from_residual-in_err-push_between-in-Across.result stopped given low)

pub returns : goal.returns
returns t c =
    let w = c.args.self.now in
    let across = across_node (λ (r : Piece). facets_ahead r.is_inside (tree_at_link w.table.now w.forest.now.nodes c.args.ahead) r.part) _ _ c.args.behind _ _ c.args.face.now _ _ _
    c.in-To.is c.at-low.ensures c.in_ok-of_face-in-To.ensures c.in-Across.is in
    let low = rw c.in_ok-part-in-Across.ensures.outline at c.in_ok-push_between-in-Across.ensures.0 in
    let high = rw c.in_ok-part-in-Across-2.ensures.outline at c.push_between-in-Across-2.ensures in
    subst (λ (more : List Outline). AddsFacetsWithin more c.args.most c.args.found.now.items c.push_between-in-Across-2.new.found.items c.push_between-in-Across-2.result) (sym across)
    (adds_more _ _ c.args.most c.args.found.now.items c.push_between-in-Across.new.found.items _ c.push_between-in-Across-2.result low high)
