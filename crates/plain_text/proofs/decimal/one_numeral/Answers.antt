use Rattle.plain_text.proofs.lemmas.Numerals.{one_numeral}
use Rattle.plain_text.proofs.decimal.one_numeral.Goals as goal

pub returns : goal.returns
returns c = one_numeral
