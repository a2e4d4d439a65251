use Rattle.closed_surface.proofs.Slides.{along_near, against_near}
use Rattle.closed_surface.proofs.facet_laws.edges_run_on.Goals as goal

pub returns : goal.returns
returns c = record { along = along_near; against = against_near }
