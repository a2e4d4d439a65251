use Rattle.std.proofs.Common.{◌<◌, length, ap, ◌∙◌, sym, add-one, ℕ}
use Rattle.plane_predicate.specs.Space.{value, opposite_of}
use Rattle.plane_predicate.specs.Sides.{side_of, is_side_behind, is_side_ahead}
use Rattle.plane_polygon.specs.Polygons.{Outline, corner}
use Rattle.plane_polygon.specs.Parts.{index_before}
use Rattle.plane_polygon.proofs.lemmas.CornerSides.{side_behind, side_ahead_opposite}
use Rattle.plane_polygon.proofs.lemmas.PartLists.{kept_step}
use Rattle.plane_polygon.proofs.cutting.part_edges.Goals as goal

pub loop-i-preserved : goal.loop-i-preserved
loop-i-preserved c =
    let s : Outline = record { plane = c.args.plane.now; edges = c.args.edges.now } in
    let m = c.args.m.now in
    let i = c.loop-i.i in
    let within : i < length c.args.edges.now = c.loop-i-test.true in
    let first = corner s (index_before (length c.args.edges.now) i) in
    record {
      behind = c.in_ok-push_kept.ensures
          ∙ kept_step s m i c.loop-i.behind.items c.is_behind.result c.is_behind-in-loop-i.result c.index-edges-i.result c.loop-i.invariant.behind
          (c.is_behind.ensures ∙ ap is_side_behind c.loop-i.invariant.from ∙ side_behind (value m first))
          (c.is_behind-in-loop-i.ensures ∙ ap is_side_behind c.next_side-to.ensures ∙ side_behind (value m (corner s i)))
          within c.index-edges-i.is;
      ahead = rw c.opposite-turned.ensures.numbers at c.in_ok-push_kept-2.ensures
          ∙ kept_step s (opposite_of m) i c.loop-i.ahead.items c.is_ahead.result c.is_ahead-in-loop-i.result c.index-edges-i-in-loop-i.result c.loop-i.invariant.ahead
          (c.is_ahead.ensures ∙ ap is_side_ahead c.loop-i.invariant.from ∙ side_ahead_opposite m first)
          (c.is_ahead-in-loop-i.ensures ∙ ap is_side_ahead c.next_side-to.ensures ∙ side_ahead_opposite m (corner s i))
          within c.index-edges-i-in-loop-i.is;
      from = c.next_side-to.ensures ∙ ap (λ (n : ℕ). side_of (value m (corner s (index_before (length c.args.edges.now) n)))) (sym (add-one i));
    }
