use Rattle.std.proofs.Common.{refl}
use Rattle.scad_func.specs.Meaning.{value_within}
use Rattle.scad_meaning.specs.Meaning.{design_within}
use Rattle.source_laws.specs.CostsOfExpressions.{cost_within}
use Rattle.source_laws.specs.CostsOfInstances.{cost_of_design_within, cost_of_program}
use Rattle.source_laws.proofs.evaluations.a_loop_of_three_takes_four_evaluations.Goals as goal

pub returns : goal.returns
unfolding cost_of_program cost_of_design_within cost_within design_within value_within
returns c = λ unit judge bindings. refl
