use Rattle.off_text.proofs.Boxed as law
use Rattle.off_text.proofs.laws.printed_corners_stay_in_the_world.Goals as goal

pub returns : goal.returns
returns c = law.boxed
