use Rattle.std.proofs.Common.{◌≡◌, ◌≤◌, ◌∙◌, sym, ap, subst, Err, to_z, of_z, rules}
use Rattle.std.specs.Prelude.{unsigned_abs}
use Rattle.std.proofs.lemmas.Int.{to_z-of_z}
use mir.Syntax.{w64}
use Rattle.scad_value.specs.Operators.{number_or_too_large}
use Rattle.scad_builtin.specs.Builtins.{power}
use Rattle.scad_builtin.proofs.Powers.{stays_large}
use Rattle.scad_builtin.proofs.number.repeated.Goals as goal

pub returns-in_err-product : goal.returns-in_err-product
returns-in_err-product c =
    let same = to_z-of_z w64 c.args.factor c.ranges.factor in
    let given : c.from_residual.result ≡ Err c.in_err-product.field-0.0 = search rules in
    let factor = to_z w64 (of_z w64 c.args.factor) in
    let size : 2 ≤ unsigned_abs factor = subst (λ x. 2 ≤ unsigned_abs x) (sym same) c.requires in
    given
    ∙ stays_large (to_z w64 c.loop.product-bits) factor c.loop.counter c.args.count
    c.in_err-product.field-0.0 c.loop.invariant.told c.loop-test.true size
    (sym c.in_err-product.was ∙ c.product_of_two.ensures)
    ∙ ap (λ x. number_or_too_large (power x c.args.count)) same
