use Rattle.off_text.proofs.lemmas.Unique as law
use Rattle.off_text.proofs.laws.one_text.Goals as goal

pub returns-clause-corners : goal.returns-clause-corners
returns-clause-corners c = law.one_corners

pub returns-clause-text : goal.returns-clause-text
returns-clause-text c = law.one_text
