use Rattle.std.proofs.Common.{arith}
use Rattle.scad_instance_rules.proofs.RangeNumbers.{number_is}
use Rattle.scad_instance_rules.proofs.ranges.number_at.Goals as goal

pub returns : goal.returns
returns c = number_is c.args.from c.args.by c.args.place c.ranges.from c.ranges.by (omega arith)
