-- The levels of operators, by how many bind more tightly.
use Rattle.std.proofs.Common.{◌≡◌, ℕ, zero, suc, ◌<◌, ◌≤◌, refl, sym, ap, ◌∙◌, arith}
use Rattle.scad_expressions.specs.declared.class.Level.{Level}
use Rattle.scad_expressions.specs.declared.class.Level.TheVariants.{Or, And, Equal, Order, Sum, Product}
use Rattle.scad_expressions.specs.TokenClasses.{next_looser_level, levels_below, levels_at, tighter_levels}

abbrev level_of : ℕ → Level
level_of zero = Product
level_of (suc zero) = Sum
level_of (suc (suc zero)) = Order
level_of (suc (suc (suc zero))) = Equal
level_of (suc (suc (suc (suc zero)))) = And
level_of (suc (suc (suc (suc (suc n))))) = Or

level_again : (level : Level) → level_of (tighter_levels level) ≡ level
level_again Or = refl
level_again And = refl
level_again Equal = refl
level_again Order = refl
level_again Sum = refl
level_again Product = refl

pub same_level : (a b : Level) → tighter_levels a ≡ tighter_levels b → a ≡ b
same_level a b e = sym (level_again a) ∙ ap level_of e ∙ level_again b

few_levels : (level : Level) → tighter_levels level ≤ 5
few_levels Or = omega arith
few_levels And = omega arith
few_levels Equal = omega arith
few_levels Order = omega arith
few_levels Sum = omega arith
few_levels Product = omega arith

-- the levels below the next looser one are those from this one on
pub looser_step : (at level : Level) → tighter_levels at < tighter_levels level
    → (levels_below (next_looser_level at) ≡ levels_at at) × (tighter_levels (next_looser_level at) ≡ suc (tighter_levels at))
looser_step Or level less = absurd (omega (arith, less, few_levels level))
looser_step And level less = (refl, refl)
looser_step Equal level less = (refl, refl)
looser_step Order level less = (refl, refl)
looser_step Sum level less = (refl, refl)
looser_step Product level less = (refl, refl)
