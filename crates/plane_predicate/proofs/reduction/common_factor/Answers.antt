use Rattle.plane_predicate.proofs.lemmas.Divisions.{common_of, factor_above}
use Rattle.plane_predicate.proofs.reduction.common_factor.Goals as goal

pub returns-clause-factor : goal.returns-clause-factor
returns-clause-factor c = common_of _ _ _ _ _ _ _ c.greatest_divisor.ensures c.greatest_divisor-2.ensures c.greatest_divisor-3.ensures

pub returns-clause-above : goal.returns-clause-above
returns-clause-above c = factor_above _ _ _ _ _ (common_of _ _ _ _ _ _ _ c.greatest_divisor.ensures c.greatest_divisor-2.ensures c.greatest_divisor-3.ensures)
