use Rattle.std.proofs.Common.{◌∙◌, sym, map, string_bytes}
use Rattle.run_words.proofs.Whole.{separator_outside}
use Rattle.run_words.proofs.settings.read_words.Goals as goal

pub returns-then-has_separator-clause-fault : goal.returns-then-has_separator-clause-fault
returns-then-has_separator-clause-fault c bad =
    separator_outside (map string_bytes c.args.words.now) (sym c.has_separator.ensures ∙ c.if-has_separator.true)
