use Rattle.std.proofs.Common.{ap, ◌∙◌, length}
use Rattle.scad_grammar.proofs.Shown.{program_shows}
use Rattle.scad_grammar.proofs.one_depth_each.Goals as goal

pub returns : goal.returns
returns c = λ x s depths h. ap length h.2 ∙ (program_shows h.0 0).count x s h.1
