use Rattle.scad_grammar.proofs.DepthLaws.{within_is_shallow, shallow_is_within}
use Rattle.scad_grammar.proofs.outlines_by_depth.Goals as goal

pub returns-clause-outline : goal.returns-clause-outline
returns-clause-outline c = within_is_shallow

pub returns-clause-shallow : goal.returns-clause-shallow
returns-clause-shallow c = shallow_is_within
