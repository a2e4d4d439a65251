use Rattle.closed_surface.proofs.Covers.{balance, within_is, is_within_parts}
use Rattle.closed_surface.proofs.facet_laws.edges_bound_what_is_covered.Goals as goal

pub returns : goal.returns
returns c = record { balance = balance; within = λ s p. (is_within_parts s p, within_is s p) }
