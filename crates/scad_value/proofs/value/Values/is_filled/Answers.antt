use Rattle.std.proofs.Common.{◌∙◌, ap, not}
use Rattle.scad_value.proofs.lemmas.Lists.{truth_out}
use Rattle.scad_value.proofs.value.Values.is_filled.Goals as goal

pub returns : goal.returns
returns c = ap not c.is_empty.ensures ∙ truth_out c.args.self.now _ c.args.self.now.items.ok.0
