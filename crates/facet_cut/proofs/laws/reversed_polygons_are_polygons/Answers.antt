use Rattle.facet_cut.proofs.Reversals.{reversed_polygon, within_reversed, within_back, covers_reversed, covers_back}
use Rattle.facet_cut.proofs.laws.reversed_polygons_are_polygons.Goals as goal

pub returns-clause-polygon : goal.returns-clause-polygon
returns-clause-polygon c = λ s h. reversed_polygon s h

pub returns-clause-points : goal.returns-clause-points
returns-clause-points c = λ s p. (λ k. covers_back s p k, λ k. covers_reversed s p k)

pub returns-clause-within : goal.returns-clause-within
returns-clause-within c = λ s p. (λ k. within_back s p k, λ k. within_reversed s p k)
