use Rattle.std.proofs.Common.{ap, ◌∙◌, arith}
use Rattle.std.specs.List.{filter}
use Rattle.std.proofs.lemmas.List.{take_all}
use Rattle.scad_instance_rules.specs.Listing.{is_numbered_child}
use Rattle.scad_instance_rules.proofs.table.children_among.Goals as goal

pub returns : goal.returns
returns c = c.each.invariant
    ∙ ap (filter (is_numbered_child c.args.echo c.args.assert)) (take_all c.each.numbered-index c.args.all.now (omega (arith, c.each-test.false)))
