use Rattle.reply_text.proofs.OneOutput as law
use Rattle.reply_text.proofs.laws.one_output.Goals as goal

pub returns : goal.returns
returns g c = λ unit. law.same_output (g.E.Exporting.exports unit) (c.requires unit)
