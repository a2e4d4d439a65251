use Rattle.off_text.proofs.OneReading as law
use Rattle.off_text.proofs.laws.one_reading.Goals as goal

pub returns : goal.returns
returns c = law.one_reading
