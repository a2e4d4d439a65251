use Rattle.scad_hull.proofs.lemmas.Loops.{hull_inside}
use Rattle.shape_hulls.proofs.laws.hulls_are_hulls_of_their_points.Goals as goal

pub returns : goal.returns
returns c = λ given h. record { inside = hull_inside given h }
