use Rattle.std.proofs.Common.{◌≡◌, ℕ, List, [], ◌∷◌, length, drop, get_or, arith, ◌≤◌, refl, sym, subst}
use Rattle.plain_text.specs.Decimals.{IsShortNumeral}
use Rattle.std.proofs.lemmas.Bool.{false≢true}
use Rattle.std.proofs.lemmas.List.{nil_from_length, take_rest}
use Rattle.script_reader.specs.Reading.{IsRange}
use Rattle.script_reader.proofs.CutLaws.{none_anyway, no_first, no_second, no_space}
use Rattle.script_reader.proofs.cuts.range_of.Goals as goal

one_more : (xs : List ℕ) → 1 ≤ length xs → xs ≡ get_or xs 0 0 ∷ drop 1 xs
one_more [] h = absurd (omega arith)
one_more (x ∷ xs) h = refl

pub returns-in_err-from-clause-none : goal.returns-in_err-from-clause-none
returns-in_err-from-clause-none c =
    none_anyway c.from_residual.result ((from upto : ℕ) → IsRange c.args.bytes.now from upto → ⊥)
    (no_first c.args.bytes.now c.split_space.result.0.now c.split_space.result.1.now c.split_space.ensures (λ n. absurd (false≢true (c.in_err-from.ensures.some.1 n))))

pub returns-in_default-clause-none : goal.returns-in_default-clause-none
returns-in_default-clause-none c =
    no_space c.args.bytes.now c.split_space.result.0.now c.split_space.result.1.now c.split_space.ensures (nil_from_length c.split_space.result.1.now (omega arith))

pub returns-in_err-upto-clause-none : goal.returns-in_err-upto-clause-none
returns-in_err-upto-clause-none c =
    none_anyway c.from_residual-in_err-upto.result ((from upto : ℕ) → IsRange c.args.bytes.now from upto → ⊥)
    (no_second c.args.bytes.now c.split_space.result.0.now c.split_space.result.1.now (drop 1 c.split_space.result.1.now) (get_or c.split_space.result.1.now 0 0) c.split_space.ensures
    (one_more c.split_space.result.1.now (omega arith)) (λ n. absurd (false≢true (c.in_err-upto.ensures.some.1 (subst IsShortNumeral (sym (take_rest c.split_space.result.1.now 1)) n)))))
