use Rattle.closed_surface.proofs.lemmas.Printing.{printed_closed}
use Rattle.closed_surface.proofs.laws.printed_faces_are_closed.Goals as goal

pub returns : goal.returns
returns c = printed_closed
