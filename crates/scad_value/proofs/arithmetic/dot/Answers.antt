use Rattle.std.proofs.Common.{◌≡◌, ◌<◌, ◌+◌, ◌^◌, ◌∙◌, sym, ap, subst, arith, length, get_or, drop, List, to_z, ◌*◌, ◌≤◌}
use Rattle.std.specs.Prelude.{unsigned_abs}
use mir.Syntax.{w128}
use Rattle.scad_value.specs.declared.value.Value.{Value}
use Rattle.scad_value.specs.Values.{vals_from, element_count_in}
use Rattle.scad_value.specs.Operators.{plus_answer, dot_of}
use Rattle.scad_value.specs.View.{vals_in}
use Rattle.scad_value.proofs.Integers.{sum_fits, sum_is, sum_size, plus_plus}
use Rattle.scad_value.proofs.lemmas.Lists.{dot_more, small_here, length-le_parts, vals_out}
use Rattle.scad_value.proofs.arithmetic.dot.Goals as goal

pub overflow_add-sum : goal.overflow_add-sum
overflow_add-sum c =
    let few : element_count_in (vals_from (vals_in c.args.left.now.items.items)) < 2 ^ 20 =
    subst (λ xs. element_count_in (vals_from xs) < 2 ^ 20) (vals_out c.args.left.now) c.requires.few in
    sum_fits (to_z w128 c.loop-i.sum-bits) c.in_ok-sum.field-0 c.loop-i.i c.loop-i.invariant.size c.in_ok-sum.ensures.size (omega (arith, few, length-le_parts c.args.left.now.items.items, c.loop-i-test.true, ap length c.deref-value-items.ensures.value))

pub loop-i-preserved : goal.loop-i-preserved
loop-i-preserved c =
    let few : element_count_in (vals_from (vals_in c.args.left.now.items.items)) < 2 ^ 20 =
    subst (λ xs. element_count_in (vals_from xs) < 2 ^ 20) (vals_out c.args.left.now) c.requires.few in
    let i = c.loop-i.i in
    let left : i < length c.args.left.now.items.items =
    omega (arith, c.loop-i-test.true, ap length c.deref-value-items.ensures.value) in
    let right : i < length c.args.right.now.items.items = omega (arith, left, c.requires.equal) in
    let less : i < 2 ^ 20 = omega (arith, few, left, length-le_parts c.args.left.now.items.items) in
    let here : c.value-item.result ≡ get_or c.args.left.now.items.items i c.value-item.result =
    c.value-item.is ∙ ap (λ
    (l : List Value). get_or l i c.value-item.result) c.deref-value-items.ensures.value in
    record {
      told = c.loop-i.invariant.told
          ∙ ap (plus_answer _) (dot_more c.args.left.now.items.items c.args.right.now.items.items i c.value-item.result c.index.result.now c.in_ok-sum.field-0 left right here c.index.ensures c.in_ok-sum.ensures.value)
          ∙ plus_plus _ _ _ ∙ ap (λ x. plus_answer x (dot_of (vals_from (vals_in (drop
          (i + 1) c.args.left.now.items.items))) (vals_from (vals_in (drop
          (i + 1) c.args.right.now.items.items))))) (sym (sum_is
          (to_z w128 c.loop-i.sum-bits) c.in_ok-sum.field-0 i c.loop-i.invariant.size c.in_ok-sum.ensures.size less));
      left = small_here c.args.left.now.items.items i c.value-item.result left here c.loop-i.invariant.left;
      right = small_here c.args.right.now.items.items i c.index.result.now right c.index.ensures c.loop-i.invariant.right;
      size = subst (λ x. unsigned_abs x ≤ (i + 1) * 2 ^ 106) (sym (sum_is
          (to_z w128 c.loop-i.sum-bits) c.in_ok-sum.field-0 i c.loop-i.invariant.size c.in_ok-sum.ensures.size less)) (sum_size (to_z w128 c.loop-i.sum-bits) c.in_ok-sum.field-0 i c.loop-i.invariant.size c.in_ok-sum.ensures.size less);
    }
