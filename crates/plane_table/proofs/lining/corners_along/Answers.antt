use Rattle.std.proofs.Common.{◌≡◌, ◌+◌, ◌<◌, [], ◌∷◌, ap, ◌∙◌, length, get_or, map, arith, subst, sym, refl, ℕ}
use Rattle.std.proofs.lemmas.List.{length-append, length-map}
use Rattle.plane_predicate.specs.Space.{Coefficients}
use Rattle.plane_predicate.specs.Lines.{IsAxisOf, IsLinePlaceOf}
use Rattle.plane_polygon.specs.Polygons.{Outline, corner}
use Rattle.plane_predicate.specs.Indices.{indices_below}
use Rattle.plane_table.specs.Tables.{plane_named}
use Rattle.plane_table.specs.Faces.{outline_of, side_against}
use Rattle.plane_table.proofs.lemmas.Corners.{after_last, after_next, map_step, side_pair, sides_end}
use Rattle.plane_table.proofs.Lines.{side_along}
use Rattle.plane_table.proofs.lining.corners_along.Goals as goal

pub loop-i-preserved : goal.loop-i-preserved
loop-i-preserved c =
    let planes = c.args.table.now in
    let face = c.args.face.now in
    let edges = face.edges in
    let s : Outline = outline_of planes face in
    let i = c.loop-i.i in
    let line = c.args.line.now in
    let count = ap length c.items-edges.ensures in
    let more : i + 1 < length edges = omega (arith, count, c.loop-i-test.true) in
    let begins = rw (c.plane-in-loop-i.ensures, c.items-edges.ensures) at c.place_on-begins.ensures in
    let next = subst (λ (k : ℕ). IsLinePlaceOf (plane_named planes (get_or edges k 0)) line c.place_on-begins.result) (sym (after_next (length edges) i more)) begins in
    let here = λ (m : Coefficients) (axis : IsAxisOf (plane_named planes face.plane) m line).
    side_along planes face m i line c.loop-i.ends c.place_on-begins.result c.side_between.result (omega (arith, more)) axis c.loop-i.invariant.ends next c.side_between.ensures in
    record {
      found = λ m axis. c.push_reserved.ensures.items ∙ map_step (λ k. side_against m (corner s k)) i c.loop-i.found.items c.corner_on.result (c.loop-i.invariant.found m axis)
          (c.corner_on.ensures ∙ side_pair m (corner s i) c.side_between.result _ _ (here m axis) refl refl);
      ends = begins;
      count = ap length c.push_reserved.ensures.items ∙ length-append c.loop-i.found.items (c.corner_on.result ∷ []) ∙ ap (λ (k : ℕ). k + 1) c.loop-i.invariant.count;
      room = omega (arith, c.push_reserved.ensures.capacity, c.loop-i.invariant.room);
    }

pub returns : goal.returns
returns c m axis =
    let planes = c.args.table.now in
    let face = c.args.face.now in
    let edges = face.edges in
    let s : Outline = outline_of planes face in
    let i = c.loop-i.i in
    let line = c.args.line.now in
    let count = ap length c.items-edges.ensures in
    let e : i + 1 ≡ length edges = omega (arith, count, c.loop-i-test.false, c.loop-i.auto.i-end, c.requires.face.polygon.three, length-map edges (plane_named planes)) in
    let first = rw (c.plane.ensures, c.items-edges.ensures) at c.place_on-first.ensures in
    let next = subst (λ (k : ℕ). IsLinePlaceOf (plane_named planes (get_or edges k 0)) line c.place_on-first.result) (sym (after_last (length edges) i e)) first in
    let here = side_along planes face m i line c.loop-i.ends c.place_on-first.result c.side_between-2.result (omega (arith, e)) axis c.loop-i.invariant.ends next c.side_between-2.ensures in
    let found = c.push_reserved-2.ensures.items ∙ map_step (λ k. side_against m (corner s k)) i c.loop-i.found.items c.corner_on-2.result (c.loop-i.invariant.found m axis)
    (c.corner_on-2.ensures ∙ side_pair m (corner s i) c.side_between-2.result _ _ here refl refl) in
    sides_end planes face m c.push_reserved-2.new.self.items (found ∙ ap (λ (k : ℕ). map (λ j. side_against m (corner s j)) (indices_below k)) e)
