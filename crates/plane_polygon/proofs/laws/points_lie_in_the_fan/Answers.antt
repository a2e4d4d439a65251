use Rattle.plane_polygon.proofs.lemmas.Hull.{hull}
use Rattle.plane_polygon.proofs.laws.points_lie_in_the_fan.Goals as goal

pub returns : goal.returns
returns c = λ s h p k. (let w = hull s h p k in record { from = w.0; inside = w.1; between = w.2 })
