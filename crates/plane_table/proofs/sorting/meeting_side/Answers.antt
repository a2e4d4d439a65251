use Rattle.std.proofs.Common.{◌≡◌, sym, ap, ◌∙◌, length, get_or}
use Rattle.plane_predicate.specs.Space.{Coordinates, meeting_by_cramers_rule, value}
use Rattle.plane_predicate.specs.Sides.{side_of}
use Rattle.plane_predicate.specs.Indices.{index_after}
use Rattle.plane_table.specs.Tables.{plane_named}
use Rattle.plane_table.proofs.lemmas.Corners.{after_in, corner_is}
use Rattle.plane_table.proofs.sorting.meeting_side.Goals as goal

pub returns : goal.returns
returns c =
    let table = c.args.table.now in
    let face = c.args.face.now in
    let m = plane_named table c.args.number in
    let i = c.args.i in
    let next = index_after (length face.edges) i in
    let v = meeting_by_cramers_rule (plane_named table face.plane) (plane_named table (get_or face.edges i 0)) (plane_named table (get_or face.edges next 0)) in
    let tested : c.side_at.result ≡ side_of (value m v) = rw (c.plane.ensures, c.plane-2.ensures, c.plane-ends.ensures, c.plane-begins.ensures, c.next_index.ensures, c.items-edges.ensures) at c.side_at.ensures in
    ◌∙◌ {b = side_of (value m v)} tested (ap (λ (p : Coordinates). side_of (value m p)) (sym (corner_is table face i c.requires.index (after_in (length face.edges) i c.requires.index))))
