use Rattle.scad_grammar.proofs.Unique.{one_list}
use Rattle.scad_grammar.proofs.one_depth_only.Goals as goal

pub returns : goal.returns
returns c = one_list
