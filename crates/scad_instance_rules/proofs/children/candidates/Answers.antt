use Rattle.scad_func.specs.View.{table_in}
use Rattle.scad_instance_rules.proofs.children.candidates.Goals as goal

pub returns-in-All : goal.returns-in-All
returns-in-All c = rw (c.in-All.is) (c.instances.ensures (table_in c.args.evaluation.now.source.now) c.requires)
