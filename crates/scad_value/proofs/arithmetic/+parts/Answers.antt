use Rattle.std.proofs.Common.{◌≡◌, ◌∙◌, ◌<◌, ◌+◌, List, Ok, sym, ap, length, get_or, drop, arith}
use Rattle.std.proofs.lemmas.Result.{err_from_is_err_and}
use Rattle.scad_value.specs.declared.value.Value.{Value}
use Rattle.scad_value.specs.Values.{vals_from}
use Rattle.scad_value.specs.Operators.{values_in_front, each_of_elements}
use Rattle.scad_value.specs.Rows.{part_row}
use Rattle.scad_value.specs.View.{vals_in}
use Rattle.scad_value.proofs.lemmas.Lists.{vals_out, parts_begin, parts_more, parts_stop, parts_end}
use Rattle.scad_value.proofs.arithmetic.+parts.Goals as goal

pub each_of-loop-value-init : goal.each_of-loop-value-init
each_of-loop-value-init t c = parts_begin (part_row c.args.row) c.args.of.now c.new-items.result.items c.new-items.ensures.items

pub each_of-returns-in_err-each_part : goal.each_of-returns-in_err-each_part
each_of-returns-in_err-each_part t c =
    let here : c.loop-value.value-index < length c.args.of.now.items.items =
    omega (arith, c.loop-value-test.true, ap length c.deref-value-items.ensures.value) in
    let item : c.value-item.result ≡ get_or c.args.of.now.items.items c.loop-value.value-index c.value-item.result =
    c.value-item.is ∙ ap (λ (l : List Value). get_or l c.loop-value.value-index c.value-item.result) c.deref-value-items.ensures.value in
    let p = err_from_is_err_and c.from_residual.result c.from_residual.ensures.1 in
    rw (p.1, p.2) (parts_stop (part_row c.args.row) c.args.of.now c.loop-value.items.items c.loop-value.value-index c.value-item.result c.in_err-each_part.field-0.0 here item c.in_err-each_part.ensures c.loop-value.invariant)

pub each_of-loop-value-preserved : goal.each_of-loop-value-preserved
each_of-loop-value-preserved t c =
    let here : c.loop-value.value-index < length c.args.of.now.items.items =
    omega (arith, c.loop-value-test.true, ap length c.deref-value-items.ensures.value) in
    let item : c.value-item.result ≡ get_or c.args.of.now.items.items c.loop-value.value-index c.value-item.result =
    c.value-item.is ∙ ap (λ (l : List Value). get_or l c.loop-value.value-index c.value-item.result) c.deref-value-items.ensures.value in
    c.loop-value.invariant
    ∙ parts_more (part_row c.args.row) c.args.of.now.items.items c.loop-value.items.items c.loop-value.value-index c.value-item.result c.in_ok-each_part.field-0 here item c.in_ok-each_part.ensures
    ∙ ap (λ (l : List Value). values_in_front (vals_in l) (each_of_elements (part_row c.args.row) (vals_from (vals_in
    (drop (c.loop-value.value-index + 1) c.args.of.now.items.items))))) (sym {A = List Value} c.in_ok-push.ensures.items)

pub each_of-returns : goal.each_of-returns
each_of-returns t c = c.loop-value.invariant
    ∙ parts_end (part_row c.args.row) c.args.of.now.items.items c.loop-value.items.items c.loop-value.value-index (omega
    (arith, c.loop-value-test.false, ap length c.deref-value-items.ensures.value))
    ∙ ap (λ l. Ok l) (sym (vals_out _))
