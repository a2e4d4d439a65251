use Rattle.std.proofs.Common.{◌≡◌, ◌/◌, ◌*ℤ◌, ◌-ℤ◌, ◌∙◌, sym, ap, ℕ, ℤ, pos, neg_ℤ, unsigned_abs, arith, rules, FitsSigned, to_z, of_z, to_z-of_z}
use Rattle.std.proofs.lemmas.Int.{ints}
use Rattle.plane_predicate.proofs.lemmas.Divisions.{quotient, quotient_negative, quotient_below}
use Rattle.plane_predicate.proofs.lemmas.Opposites.{from_zero, size_of_negative}
use Rattle.plane_predicate.proofs.lemmas.Sizes.{fits_by_size}
use mir.Syntax.{w128}
use Rattle.off_text.proofs.lowest.quotient.Goals as goal

pub returns-then-x-lt0 : goal.returns-then-x-lt0
returns-then-x-lt0 c =
    let r = c.ranges.x in
    let n = unsigned_abs c.args.x / c.args.by in
    let f : FitsSigned w128 c.from-size.result = search rules in
    let u : c.unsigned_abs.result ≡ unsigned_abs c.args.x = simp to_z-of_z at c.unsigned_abs.ensures.value in
    let size : c.from-size.result ≡ pos (c.unsigned_abs.result / c.args.by) = c.from-size.ensures in
    let small = quotient_below (unsigned_abs c.args.x) c.args.by c.requires.above c.requires.divides (omega (arith, u, c.unsigned_abs.ensures.bound)) in
    let fits : FitsSigned w128 (neg_ℤ (pos n)) = fits_by_size w128 (neg_ℤ (pos n)) (omega (arith, small, size_of_negative (pos n))) in
    quotient_negative c.args.x c.args.by c.requires.divides (omega (arith, ints, simp to_z-of_z at c.if-x-lt0.true))
    ∙ ap (λ (z : ℤ). pos c.args.by *ℤ z) (sym
    (ap (λ (z : ℤ). to_z w128 (of_z w128 (pos 0 -ℤ z))) (to_z-of_z f ∙ size ∙ ap (λ (s : ℕ). pos (s / c.args.by)) u)
    ∙ ap (λ (z : ℤ). to_z w128 (of_z w128 z)) (from_zero (pos n)) ∙ to_z-of_z fits))

pub returns-else-x-lt0 : goal.returns-else-x-lt0
returns-else-x-lt0 c =
    let r = c.ranges.x in
    let f : FitsSigned w128 c.from-size.result = search rules in
    let u : c.unsigned_abs.result ≡ unsigned_abs c.args.x = simp to_z-of_z at c.unsigned_abs.ensures.value in
    let size : c.from-size.result ≡ pos (c.unsigned_abs.result / c.args.by) = c.from-size.ensures in
    quotient c.args.x c.args.by c.requires.divides (omega (arith, ints, simp to_z-of_z at c.if-x-lt0.false))
    ∙ ap (λ (z : ℤ). pos c.args.by *ℤ z) (sym (to_z-of_z f ∙ size ∙ ap (λ (s : ℕ). pos (s / c.args.by)) u))
