use Rattle.std.proofs.Common.{◌≡◌, ◌/◌, ◌*ℤ◌, pos, unsigned_abs, arith, to_z-of_z, to_z, of_z, ◌-ℤ◌, ◌∙◌, sym, ap, ℤ, ℕ}
use Rattle.std.proofs.lemmas.Int.{ints}
use Rattle.plane_predicate.proofs.lemmas.Divisions.{quotient, quotient_negative, quotient_below, machine_positive, machine_negative}
use mir.Syntax.{w128}
use Rattle.plane_predicate.proofs.reduction.divided.Goals as goal

pub returns-then-x-lt0 : goal.returns-then-x-lt0
returns-then-x-lt0 c =
    let r = c.ranges.x in
    let u : c.unsigned_abs.result ≡ unsigned_abs c.args.x = simp to_z-of_z at c.unsigned_abs.ensures.value in
    let small = quotient_below (unsigned_abs c.args.x) c.args.by c.requires.above c.requires.divides c.requires.size in
    quotient_negative c.args.x c.args.by c.requires.divides (omega (arith, ints, simp to_z-of_z at c.if-x-lt0.true))
    ∙ ap (λ (z : ℤ). pos c.args.by *ℤ z) (sym (machine_negative (unsigned_abs c.args.x / c.args.by) small) ∙ ap (λ (n : ℕ). to_z w128 (of_z w128 (pos 0 -ℤ to_z w128 (n / c.args.by)))) (sym u))

pub returns-else-x-lt0 : goal.returns-else-x-lt0
returns-else-x-lt0 c =
    let r = c.ranges.x in
    let u : c.unsigned_abs.result ≡ unsigned_abs c.args.x = simp to_z-of_z at c.unsigned_abs.ensures.value in
    let small = quotient_below (unsigned_abs c.args.x) c.args.by c.requires.above c.requires.divides c.requires.size in
    quotient c.args.x c.args.by c.requires.divides (omega (arith, ints, simp to_z-of_z at c.if-x-lt0.false))
    ∙ ap (λ (z : ℤ). pos c.args.by *ℤ z) (sym (machine_positive (unsigned_abs c.args.x / c.args.by) small) ∙ ap (λ (n : ℕ). to_z w128 (n / c.args.by)) (sym u))
