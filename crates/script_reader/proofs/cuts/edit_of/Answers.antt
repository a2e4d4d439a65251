use Rattle.std.proofs.Common.{ℕ, List}
use Rattle.std.proofs.lemmas.Bool.{false≢true}
use Rattle.script_reader.specs.Reading.{IsEditOf}
use Rattle.script_reader.proofs.CutLaws.{none_anyway, no_edit}
use Rattle.script_reader.proofs.cuts.edit_of.Goals as goal

pub returns-in_err-line-clause-none : goal.returns-in_err-line-clause-none
returns-in_err-line-clause-none c =
    none_anyway c.from_residual.result ((line : ℕ) (text : List ℕ) → IsEditOf c.args.bytes.now line text → ⊥)
    (no_edit c.args.bytes.now c.split_space.result.0.now c.split_space.result.1.now c.split_space.ensures (λ n. absurd (false≢true (c.in_err-line.ensures.some.1 n))))
