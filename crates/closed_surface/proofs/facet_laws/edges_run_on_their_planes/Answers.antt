use Rattle.closed_surface.proofs.Edges.{points_run, run_points, along_runs, runs_along, against_runs, runs_against}
use Rattle.closed_surface.proofs.facet_laws.edges_run_on_their_planes.Goals as goal

pub returns : goal.returns
returns c = record {
  points = λ s h i l q w. (run_points s h i l q w, points_run s h i l q w);
  along = λ s h i l q w v. (runs_along s h i l q w v, along_runs s h i l q w v);
  against = λ s h i l q w v. (runs_against s h i l q w v, against_runs s h i l q w v);
}
