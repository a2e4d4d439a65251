use Rattle.off_text.proofs.SomeCorners as law
use Rattle.off_text.proofs.laws.some_corners.Goals as goal

pub returns : goal.returns
returns c = law.some_corners
