use Rattle.std.proofs.Common.{◌∙◌, ap, take}
use Rattle.scad_definitions.specs.View.{pairs_in}
use Rattle.scad_definitions.proofs.Places.{cut}
use Rattle.scad_definitions.proofs.list.NameList.truncate.Goals as goal

pub returns : goal.returns
returns g c = ap pairs_in (c.truncate.ensures.items ∙ ap (take c.args.to) c.back.invariant) ∙ cut c.args.self.now.items.items c.args.to c.requires
