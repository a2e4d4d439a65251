use Rattle.std.proofs.Common.{◌≡◌, ◌+◌, ◌<◌, ap, ◌∙◌, length, get_or, map, arith, subst, sym, ℕ}
use Rattle.std.proofs.lemmas.List.{length-map}
use Rattle.plane_predicate.specs.Space.{Coefficients, value}
use Rattle.plane_predicate.specs.Sides.{is_side_ahead, is_side_behind}
use Rattle.plane_predicate.specs.Lines.{IsAxisOf, IsLinePlaceOf}
use Rattle.plane_polygon.specs.Polygons.{Outline, corner}
use Rattle.plane_polygon.specs.Parts.{some_of, is_behind, is_ahead}
use Rattle.plane_table.specs.Tables.{plane_named}
use Rattle.plane_table.specs.Faces.{outline_of}
use Rattle.plane_table.proofs.lemmas.Corners.{after_last, after_next, some_step, class_end, side_ahead, side_behind}
use Rattle.plane_table.proofs.Lines.{side_along}
use Rattle.plane_table.proofs.lining.class_along.Goals as goal
use Rattle.plane_predicate.specs.Indices.{indices_below}

pub loop-i-preserved : goal.loop-i-preserved
loop-i-preserved c =
    let planes = c.args.table.now in
    let face = c.args.face.now in
    let edges = face.edges in
    let s : Outline = outline_of planes face in
    let i = c.loop-i.i in
    let line = c.args.line.now in
    let count = ap length c.items-edges.ensures in
    let more : i + 1 < length edges = omega (arith, count, c.loop-i-test.true) in
    let begins = rw (c.plane-in-loop-i.ensures, c.items-edges.ensures) at c.place_on-begins.ensures in
    let next = subst (λ (k : ℕ). IsLinePlaceOf (plane_named planes (get_or edges k 0)) line c.place_on-begins.result) (sym (after_next (length edges) i more)) begins in
    let here = λ (m : Coefficients) (axis : IsAxisOf (plane_named planes face.plane) m line).
    side_along planes face m i line c.loop-i.ends c.place_on-begins.result c.side_between-side.result (omega (arith, more)) axis c.loop-i.invariant.ends next c.side_between-side.ensures in
    record {
      behind = λ m axis. c.is_either-some_behind.ensures ∙ some_step (is_behind m) (corner s) i c.loop-i.some_behind c.is_behind.result (c.loop-i.invariant.behind m axis)
          (c.is_behind.ensures ∙ ap is_side_behind (here m axis) ∙ side_behind (value m (corner s i)));
      ahead = λ m axis. c.is_either-some_ahead.ensures ∙ some_step (is_ahead m) (corner s) i c.loop-i.some_ahead c.is_ahead.result (c.loop-i.invariant.ahead m axis)
          (c.is_ahead.ensures ∙ ap is_side_ahead (here m axis) ∙ side_ahead (value m (corner s i)));
      ends = begins;
    }

pub returns : goal.returns
returns c m axis =
    let planes = c.args.table.now in
    let face = c.args.face.now in
    let edges = face.edges in
    let s : Outline = outline_of planes face in
    let i = c.loop-i.i in
    let line = c.args.line.now in
    let count = ap length c.items-edges.ensures in
    let e : i + 1 ≡ length edges = omega (arith, count, c.loop-i-test.false, c.loop-i.auto.i-end, c.requires.face.polygon.three, length-map edges (plane_named planes)) in
    let first = rw (c.plane.ensures, c.items-edges.ensures) at c.place_on-first.ensures in
    let next = subst (λ (k : ℕ). IsLinePlaceOf (plane_named planes (get_or edges k 0)) line c.place_on-first.result) (sym (after_last (length edges) i e)) first in
    let here = side_along planes face m i line c.loop-i.ends c.place_on-first.result c.side_between-last.result (omega (arith, e)) axis c.loop-i.invariant.ends next c.side_between-last.ensures in
    let behind = c.is_either.ensures ∙ some_step (is_behind m) (corner s) i c.loop-i.some_behind c.is_behind-2.result (c.loop-i.invariant.behind m axis)
    (c.is_behind-2.ensures ∙ ap is_side_behind here ∙ side_behind (value m (corner s i))) in
    let ahead = c.is_either-2.ensures ∙ some_step (is_ahead m) (corner s) i c.loop-i.some_ahead c.is_ahead-2.result (c.loop-i.invariant.ahead m axis)
    (c.is_ahead-2.ensures ∙ ap is_side_ahead here ∙ side_ahead (value m (corner s i))) in
    c.class_from.ensures
    ∙ class_end planes face m c.is_either.result c.is_either-2.result
    (behind ∙ ap (λ (k : ℕ). some_of (is_behind m) (map (corner s) (indices_below k))) e)
    (ahead ∙ ap (λ (k : ℕ). some_of (is_ahead m) (map (corner s) (indices_below k))) e)
