use Rattle.std.proofs.Common.{◌≡◌, ℕ, length, ap, sym, ◌∙◌, arith}
use Rattle.std.proofs.lemmas.Result.{IfOk-weaker}
use Rattle.plane_polygon.specs.Polygons.{Outline}
use Rattle.plane_table.specs.Tables.{plane_named}
use Rattle.plane_table.specs.Faces.{outline_of, AreFourSides, AreSidesOf, AreSidesWhereAcross}
use Rattle.plane_table.proofs.lemmas.Corners.{all_listed, all_of_class, one_side, begins_at, ends_at, four_end}
use Rattle.plane_table.proofs.sorting.sides_where_across.Goals as goal
use Rattle.plane_predicate.specs.Indices.{index_after}

pub returns-in-Some : goal.returns-in-Some
returns-in-Some c = record {
  class = c.class_on.ensures ∙ all_of_class c.args.table.now c.args.face.now (plane_named c.args.table.now c.args.number) c.in-Some.side c.requires.face c.in-Some.ensures;
  corners = λ across. absurd (one_side c.in-Some.side (sym c.class_on.ensures ∙ across));
}

pub returns-in-Some-both_known : goal.returns-in-Some-both_known
returns-in-Some-both_known c =
    let planes = c.args.table.now in
    let face = c.args.face.now in
    let m = plane_named planes c.args.number in
    let first = c.in-Some-both_known.first in
    let third = c.in-Some-both_known.third in
    let four : length face.edges ≡ 4 = sym c.len.ensures ∙ c.if-len-eq4.true in
    let known = rw c.items-edges.ensures at c.in-Some-both_known.ensures in
    IfOk-weaker c.four_sides.result (AreFourSides first third third first) (AreSidesWhereAcross (outline_of planes face) m)
    (λ r h. four_end planes face m first third third first r four
    (ends_at planes face m 0 first c.requires.face (omega arith) known.0)
    (begins_at planes face m 1 2 third c.requires.face (omega arith) (ap (λ (n : ℕ). index_after n 1) four) known.1)
    (ends_at planes face m 2 third c.requires.face (omega arith) known.1)
    (begins_at planes face m 3 0 first c.requires.face (omega arith) (ap (λ (n : ℕ). index_after n 3) four) known.0) h)
    c.four_sides.ensures

pub returns-in-Some-both_known-2 : goal.returns-in-Some-both_known-2
returns-in-Some-both_known-2 c =
    let planes = c.args.table.now in
    let face = c.args.face.now in
    let m = plane_named planes c.args.number in
    let second = c.in-Some-both_known-2.second in
    let fourth = c.in-Some-both_known-2.fourth in
    let four : length face.edges ≡ 4 = sym c.len.ensures ∙ c.if-len-eq4.true in
    let known = rw c.items-edges.ensures at c.in-Some-both_known-2.ensures in
    IfOk-weaker c.four_sides-in-Some-both_known-2.result (AreFourSides second second fourth fourth) (AreSidesWhereAcross (outline_of planes face) m)
    (λ r h. four_end planes face m second second fourth fourth r four
    (begins_at planes face m 0 1 second c.requires.face (omega arith) (ap (λ (n : ℕ). index_after n 0) four) known.0)
    (ends_at planes face m 1 second c.requires.face (omega arith) known.0)
    (begins_at planes face m 2 3 fourth c.requires.face (omega arith) (ap (λ (n : ℕ). index_after n 2) four) known.1)
    (ends_at planes face m 3 fourth c.requires.face (omega arith) known.1) h)
    c.four_sides-in-Some-both_known-2.ensures

pub returns : goal.returns
returns c =
    let s : Outline = outline_of c.args.table.now c.args.face.now in
    let m = plane_named c.args.table.now c.args.number in
    IfOk-weaker c.sides.result (AreSidesOf s m) (AreSidesWhereAcross s m) (all_listed s m) c.sides.ensures
