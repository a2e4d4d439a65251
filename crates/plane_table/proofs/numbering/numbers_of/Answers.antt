use Rattle.std.proofs.Common.{ℕ, length, get_or, sym, ap, ◌∙◌, arith}
use Rattle.std.proofs.lemmas.List.{get_or_read, length_push}
use Rattle.plane_polygon.specs.Polygons.{missing_plane}
use Rattle.plane_table.proofs.Joins.{keeps_on, first_more}
use Rattle.plane_table.proofs.numbering.numbers_of.Goals as goal

pub loop-plane-preserved : goal.loop-plane-preserved
loop-plane-preserved c =
    let old = c.loop-plane.planes.items in
    let new = c.number_of.new.planes.items in
    let numbers = c.loop-plane.numbers.items in
    let from = c.args.from.now in
    let i = c.loop-plane.plane-index in
    let n = c.in_ok-number_of.field-0 in
    let found = c.in_ok-number_of.ensures in
    let count = c.loop-plane.invariant.count in
    let test = c.loop-plane-test.true in
    let pushed = ap length c.in_ok-push.ensures.items in
    let more = length_push numbers n in
    record {
      apart = found.apart;
      keeps = keeps_on c.args.known.items old new c.loop-plane.invariant.keeps found.keeps;
      count = omega arith;
      first = rw c.in_ok-push.ensures.items (first_more old new numbers from n c.loop-plane.invariant.first found.keeps (omega arith) found.in_range
          (found.same ∙ get_or_read from i c.plane-item.result test c.plane-item.is missing_plane ∙ ap (λ (k : ℕ). get_or from k missing_plane) (sym count)));
    }
