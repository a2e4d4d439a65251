use Rattle.std.proofs.Common.{◌≡◌, take}
use Rattle.std.specs.List.{filter}
use Rattle.scad_instance_rules.specs.Listing.{is_numbered_child}
use Rattle.scad_instance_rules.proofs.table.children_among.Given as goal

abbrev pub invariant-each : goal.invariant-each
invariant-each l = l.found.items
    ≡ filter (is_numbered_child l.echo l.assert) (take l.numbered-index l.all)
