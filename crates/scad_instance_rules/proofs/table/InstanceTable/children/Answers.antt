use Rattle.std.proofs.Common.{◌<◌, length, sym, subst, ◌∙◌, arith}
use Rattle.scad_func.specs.Definitions.{statements_at}
use Rattle.scad_instance_rules.specs.Listing.{ListsInstances}
use Rattle.scad_instance_rules.proofs.Listing.{children_blocks}
use Rattle.scad_instance_rules.proofs.table.InstanceTable.children.Goals as goal

pub returns-then-block-len : goal.returns-then-block-len
returns-then-block-len c = λ table listed.
    let there : c.args.block < length c.args.self.now.blocks.items = omega (arith, c.len.ensures, c.if-block-len.true) in
    let lists = subst (ListsInstances table (statements_at table c.args.block)) (sym c.index.ensures)
    (listed.each c.args.block c.index.result.now there) in
    children_blocks table (statements_at table c.args.block) c.args.echo c.args.assert c.index.result.now.all.items c.children.result.now
    lists.all (c.children.ensures ∙ lists.children c.args.echo c.args.assert)
