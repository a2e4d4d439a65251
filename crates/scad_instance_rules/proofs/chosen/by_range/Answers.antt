use Rattle.std.proofs.Common.{◌≡◌, ℕ, ◌≤◌, List, [], ◌∷◌, ◌++◌, length, ℤ, pos, ◌+ℤ◌, ◌*ℤ◌, sym, ap, subst, ◌∙◌, arith, rules, of_z}
use Rattle.std.specs.Prelude.{unsigned_abs}
use Rattle.std.specs.Int.{div_ceil}
use Rattle.std.proofs.lemmas.Int.{to_z-of_z}
use mir.Syntax.{w64, w128}
use mir.Val.{SFits}
use Rattle.scad_meaning.specs.Loops.{numbers_by, item_numbered, items_numbered}
use Rattle.scad_instance_rules.specs.Choosing.{distance_before}
use Rattle.scad_instance_rules.proofs.Crossing.{none_at_first, one_more, no_more}
use Rattle.scad_instance_rules.proofs.chosen.by_range.Goals as goal

pub loop-k-init : goal.loop-k-init
loop-k-init g c =
    let f = to_z-of_z w64 c.args.from c.ranges.from in
    let b = to_z-of_z w64 c.args.by c.ranges.by in
    let distance = simp (f, b) at c.distance_before.ensures in
    let step = simp b at c.unsigned_abs.ensures.value in
    let first : c.div_ceil-before.result ≡ div_ceil (distance_before c.args.from c.args.by (length c.args.children.now)) (unsigned_abs c.args.by) =
    cc (c.div_ceil-before.ensures, distance, step) in
    let within : c.min-k.result ≤ c.div_ceil-before.result = omega (arith, c.min-k.ensures) in
    simp (f, b) (c.new-found.ensures.items ∙ sym (none_at_first c.args.children.now c.args.from c.args.by c.min-k.result
    (λ e. c.if-by-eq0.false (ap (of_z w64) e)) (subst (λ (m : ℕ). c.min-k.result ≤ m) first within)))

pub loop-k-preserved : goal.loop-k-preserved
loop-k-preserved g c =
    let xs = c.args.children.now in
    let from = c.args.from in
    let by = c.args.by in
    let f = to_z-of_z w64 from c.ranges.from in
    let b = to_z-of_z w64 by c.ranges.by in
    let number = simp (f, b) at c.number_at.ensures in
    let fits : SFits w128 c.number_at.result = search rules in
    let kept = to_z-of_z w128 c.number_at.result fits in
    let so_far = simp (f, b) at c.loop-k.invariant in
    simp (f, b) (c.in_ok-push-in-Some.ensures.items ∙ ap (λ (ys : List g.row.T.Denot). ys ++ c.in-Some.child ∷ []) so_far
    ∙ ap (λ (ys : List g.row.T.Denot). items_numbered xs (numbers_by c.loop-k.k from by) ++ ys) (c.in-Some.ensures ∙ ap (λ (z : ℤ). item_numbered xs z) (kept ∙ number))
    ∙ sym (one_more xs from by c.loop-k.k))

pub returns-in-None : goal.returns-in-None
returns-in-None g c =
    let xs = c.args.children.now in
    let from = c.args.from in
    let by = c.args.by in
    let k = c.loop-k.k in
    let f = to_z-of_z w64 from c.ranges.from in
    let b = to_z-of_z w64 by c.ranges.by in
    let u = to_z-of_z w64 c.args.upto c.ranges.upto in
    let distance = simp (f, b) at c.distance_before.ensures in
    let step = simp b at c.unsigned_abs.ensures.value in
    let first : c.div_ceil-before.result ≡ div_ceil (distance_before from by (length xs)) (unsigned_abs by) =
    cc (c.div_ceil-before.ensures, distance, step) in
    let number = simp (f, b) at c.number_at.ensures in
    let fits : SFits w128 c.number_at.result = search rules in
    let kept = to_z-of_z w128 c.number_at.result fits in
    let so_far = simp (f, b) at c.loop-k.invariant in
    let count = simp (f, b, u) at c.count_of_range-count.ensures in
    let come : c.div_ceil-before.result ≤ k = omega (arith, c.min-k.ensures) in
    let none : item_numbered xs (from +ℤ (pos k *ℤ by)) ≡ [] = sym (c.in-None.ensures ∙ ap (λ (z : ℤ). item_numbered xs z) (kept ∙ number)) in
    so_far ∙ sym (no_more xs from by k c.count_of_range-count.result (λ e. c.if-by-eq0.false (ap (of_z w64) e))
    (subst (λ (m : ℕ). m ≤ k) first come) none (omega arith))
    ∙ ap (λ (m : ℕ). items_numbered xs (numbers_by m from by)) count

pub returns : goal.returns
returns g c =
    let xs = c.args.children.now in
    let from = c.args.from in
    let by = c.args.by in
    let f = to_z-of_z w64 from c.ranges.from in
    let b = to_z-of_z w64 by c.ranges.by in
    let u = to_z-of_z w64 c.args.upto c.ranges.upto in
    let count = simp (f, b, u) at c.count_of_range-count.ensures in
    let all : c.loop-k.k ≡ c.count_of_range-count.result = omega (arith, c.min-k.ensures) in
    (simp (f, b) at c.loop-k.invariant) ∙ ap (λ (m : ℕ). items_numbered xs (numbers_by m from by)) (all ∙ count)
