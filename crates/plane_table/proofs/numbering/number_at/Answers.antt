use Rattle.std.proofs.Common.{◌≡◌, ◌*◌, ◌+◌, ◌/◌, sym, ◌∙◌, arith}
use Rattle.plane_table.proofs.Numbers.{at_even, at_odd, turned_back}
use Rattle.plane_table.proofs.lemmas.Planes.{same_equal}
use Rattle.plane_table.proofs.numbering.number_at.Goals as goal

pub returns-then-eq-clause-some : goal.returns-then-eq-clause-some
returns-then-eq-clause-some c =
    let e = same_equal c.args.other.now c.args.plane.now (sym c.eq.ensures ∙ c.if-eq.true) in
    let h : 2 * c.args.index / 2 ≡ c.args.index = omega arith in
    (h, sym e ∙ sym (at_even c.args.index c.args.other.now))

pub returns-then-eq-2-clause-some : goal.returns-then-eq-2-clause-some
returns-then-eq-2-clause-some c =
    let e = same_equal c.args.other.now c.opposite.result (sym c.eq-else-eq.ensures ∙ c.if-eq-2.true) ∙ c.opposite.ensures.numbers in
    let h : (2 * c.args.index + 1) / 2 ≡ c.args.index = omega arith in
    (h, turned_back c.args.other.now c.args.plane.now e ∙ sym (at_odd c.args.index c.args.other.now))
