use Rattle.std.proofs.Common.{◌≡◌, ap, ◌∙◌, length, get_or, arith, IfSome, subst, ℕ}
use Rattle.plane_polygon.specs.Polygons.{Outline, corner}
use Rattle.plane_polygon.specs.Parts.{is_behind, is_ahead}
use Rattle.plane_polygon.specs.Parallels.{HasAllOn}
use Rattle.plane_table.specs.declared.sorting.CornerSide.{CornerSide}
use Rattle.plane_table.specs.Tables.{plane_named}
use Rattle.plane_table.specs.Faces.{outline_of, side_against}
use Rattle.plane_table.proofs.lemmas.Corners.{after_next, some_step, map_step, class_end, sides_end, known_at}
use Rattle.plane_table.proofs.sorting.sides.Goals as goal

pub corner_side-side-requires-clause-known : goal.corner_side-side-requires-clause-known
corner_side-side-requires-clause-known c =
    let planes = c.args.table.now in
    let within = rw c.items-edges.ensures at c.loop-i-test.true in
    known_at planes c.args.face.now (plane_named planes c.args.number) c.loop-i.i c.loop-i.ends c.side_of_all-begins.result c.first_known-known.result
    c.requires.face within (c.loop-i.invariant.ends within)
    (rw (c.next_index.ensures, c.items-edges.ensures) at c.side_of_all-begins.ensures) c.first_known-known.ensures

pub loop-i-preserved : goal.loop-i-preserved
loop-i-preserved c =
    let planes = c.args.table.now in
    let edges = c.args.face.now.edges in
    let s : Outline = outline_of planes c.args.face.now in
    let m = plane_named planes c.args.number in
    let i = c.loop-i.i in
    let begins = rw (c.next_index.ensures, c.items-edges.ensures) at c.side_of_all-begins.ensures in
    record {
      behind = c.is_either-some_behind.ensures ∙ some_step (is_behind m) (corner s) i c.loop-i.some_behind c.corner_side-side.result.is_behind c.loop-i.invariant.behind (ap (λ (d : CornerSide). d.is_behind) c.corner_side-side.ensures);
      ahead = c.is_either-some_ahead.ensures ∙ some_step (is_ahead m) (corner s) i c.loop-i.some_ahead c.corner_side-side.result.is_ahead c.loop-i.invariant.ahead (ap (λ (d : CornerSide). d.is_ahead) c.corner_side-side.ensures);
      corners = c.in_ok-push.ensures.ok ∙ map_step (λ k. side_against m (corner s k)) i c.loop-i.corners.items c.corner_side-side.result c.loop-i.invariant.corners c.corner_side-side.ensures;
      ends = λ l. subst (λ (k : ℕ). IfSome c.side_of_all-begins.result (HasAllOn (plane_named planes (get_or edges k 0)) m)) (after_next (length edges) i l) begins;
    }

pub returns : goal.returns
returns c =
    let e : c.loop-i.i ≡ length c.args.face.now.edges = omega (arith, ap length c.items-edges.ensures) in
    let m = plane_named c.args.table.now c.args.number in
    record {
      class = c.class_from.ensures
          ∙ class_end c.args.table.now c.args.face.now m c.loop-i.some_behind c.loop-i.some_ahead (rw e at c.loop-i.invariant.behind) (rw e at c.loop-i.invariant.ahead);
      corners = sides_end c.args.table.now c.args.face.now m c.loop-i.corners.items (rw e at c.loop-i.invariant.corners);
    }
