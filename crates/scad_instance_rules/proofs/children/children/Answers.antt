use Rattle.scad_func.specs.View.{table_in}
use Rattle.scad_func.specs.Evaluations.{env_here}
use Rattle.scad_func.specs.Definitions.{statements_at}
use Rattle.scad_instance_rules.proofs.Listing.{children_seen}
use Rattle.scad_instance_rules.proofs.children.children.Goals as goal

pub returns : goal.returns
returns c =
    let e = c.args.evaluation.now in
    let table = table_in e.source.now in
    children_seen (env_here e) c.has_no_module-echo.result c.has_no_module-assert.result table (statements_at table c.args.block)
    c.children.result.now c.has_no_module-echo.ensures c.has_no_module-assert.ensures (c.children.ensures table c.requires)
