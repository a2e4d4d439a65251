use Rattle.reply_text.proofs.OneAnswer as law
use Rattle.reply_text.proofs.laws.own_replies.Goals as goal

pub returns : goal.returns
returns g c = λ unit. law.own_replies (g.E.Exporting.exports unit) (c.requires unit)
