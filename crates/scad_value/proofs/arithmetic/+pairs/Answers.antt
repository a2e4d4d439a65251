use Rattle.std.proofs.Common.{◌≡◌, ◌∙◌, ◌<◌, ◌+◌, sym, ap, subst, length, get_or, drop, arith, Ok, List}
use Rattle.scad_value.specs.declared.value.Value.{Value}
use Rattle.scad_value.specs.Values.{vals_from}
use Rattle.scad_value.specs.Operators.{values_in_front, pairs_by_elements}
use Rattle.scad_value.specs.View.{vals_in, MeetsAnswers}
use Rattle.scad_value.specs.Rows.{pair_row}
use Rattle.scad_value.proofs.lemmas.Lists.{pairs_more, pairs_end, vals_out, equal_counts, unequal_counts}
use Rattle.scad_value.proofs.arithmetic.+pairs.Goals as goal

pub equal_lists-returns-then-len : goal.equal_lists-returns-then-len
equal_lists-returns-then-len t c =
    unequal_counts c.args.left.now c.args.right.now _ (λ e. absurd (c.if-len.true (omega
    (arith, e, c.args.left.now.items.ok.0, c.args.right.now.items.ok.0, c.len.ensures, c.len-2.ensures))))

pub equal_lists-returns : goal.equal_lists-returns
equal_lists-returns t c = subst (λ a. MeetsAnswers c.each_pair.result a) (sym
    (equal_counts c.args.left.now c.args.right.now _ (omega
    (arith, c.if-len.false, c.args.left.now.items.ok.0, c.args.right.now.items.ok.0, c.len.ensures, c.len-2.ensures)))) c.each_pair.ensures

pub each_pair-loop-i-preserved : goal.each_pair-loop-i-preserved
each_pair-loop-i-preserved t c =
    let left : c.loop-i.i < length c.args.left.now.items.items =
    omega (arith, c.loop-i-test.true, c.deref-value-items.ensures.len, c.args.left.now.items.ok.0) in
    let here : c.value-item.result ≡ get_or c.args.left.now.items.items c.loop-i.i c.value-item.result =
    c.value-item.is ∙ ap (λ
    (l : List Value). get_or l c.loop-i.i c.value-item.result) c.deref-value-items.ensures.value in
    c.loop-i.invariant ∙ pairs_more
    (pair_row c.args.row) c.args.left.now.items.items c.args.right.now.items.items c.loop-i.items.items c.loop-i.i c.value-item.result c.index.result.now c.in_ok-by_parts.field-0 left (omega (arith, left, c.requires)) here c.index.ensures c.in_ok-by_parts.ensures
    ∙ ap (λ (l : List Value). values_in_front (vals_in l) (pairs_by_elements (pair_row c.args.row) (vals_from
    (vals_in (drop (c.loop-i.i + 1) c.args.left.now.items.items))) (vals_from (vals_in (drop
    (c.loop-i.i + 1) c.args.right.now.items.items))))) (sym c.in_ok-push.ensures.items)

pub each_pair-returns : goal.each_pair-returns
each_pair-returns t c = c.loop-i.invariant
    ∙ pairs_end (pair_row c.args.row) c.args.left.now.items.items c.loop-i.items.items _ c.loop-i.i (omega
    (arith, c.loop-i-test.false, ap length c.deref-value-items.ensures.value))
    ∙ ap (λ l. Ok l) (sym (vals_out _))
