use Rattle.plane_predicate.proofs.lemmas.InUnits as law
use Rattle.plane_predicate.proofs.laws.points_in_units_and_grid_steps.Goals as goal

pub returns-clause-steps : goal.returns-clause-steps
returns-clause-steps c = law.back_in_steps

pub returns-clause-units : goal.returns-clause-units
returns-clause-units c = law.back_in_units

pub returns-clause-value : goal.returns-clause-value
returns-clause-value c = law.value_in_steps

pub returns-clause-orientation_seen_from : goal.returns-clause-orientation_seen_from
returns-clause-orientation_seen_from c = law.turn_in_steps

pub returns-clause-whole_units : goal.returns-clause-whole_units
returns-clause-whole_units c = law.whole_units

pub returns-clause-whole_steps : goal.returns-clause-whole_steps
returns-clause-whole_steps c = law.whole_steps
