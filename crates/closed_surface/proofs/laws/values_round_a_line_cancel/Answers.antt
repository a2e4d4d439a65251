use Rattle.closed_surface.proofs.Sectors.{round}
use Rattle.closed_surface.proofs.laws.values_round_a_line_cancel.Goals as goal

pub returns : goal.returns
returns c = round
