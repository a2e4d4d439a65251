use Rattle.scad_hull.proofs.lemmas.Loops.{hull_is_shape, hull_inside}
use Rattle.scad_hull.proofs.laws.hulls_hold_inner_combinations.Goals as goal

pub returns-clause-shape : goal.returns-clause-shape
returns-clause-shape c = hull_is_shape

pub returns-clause-inside : goal.returns-clause-inside
returns-clause-inside c = hull_inside
