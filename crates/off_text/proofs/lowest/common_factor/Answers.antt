use Rattle.plane_predicate.proofs.lemmas.Divisions.{factor_above}
use Rattle.off_text.proofs.lemmas.Factors.{factor_of}
use Rattle.off_text.proofs.lowest.common_factor.Goals as goal

pub returns-clause-factor : goal.returns-clause-factor
returns-clause-factor c = factor_of _ _ _ _ _ _ _ c.greatest_divisor-with_x.ensures c.greatest_divisor-with_y.ensures c.greatest_divisor.ensures

pub returns-clause-above : goal.returns-clause-above
returns-clause-above c = factor_above _ _ _ _ _ (factor_of _ _ _ _ _ _ _ c.greatest_divisor-with_x.ensures c.greatest_divisor-with_y.ensures c.greatest_divisor.ensures)
