use Rattle.std.proofs.Common.{length, sym, ap, subst, arith}
use Rattle.std.proofs.lemmas.List.{length_push}
use Rattle.scad_func.specs.Definitions.{statements_at}
use Rattle.scad_func.specs.View.{table_in}
use Rattle.scad_instance_rules.specs.Listing.{ListsInstances}
use Rattle.scad_instance_rules.proofs.Listing.{listed_more}
use Rattle.scad_instance_rules.proofs.table.InstanceTable.of.Goals as goal

pub loop-block-preserved : goal.loop-block-preserved
loop-block-preserved c =
    let known = c.loop-block.invariant in
    let table = table_in c.args.source.now in
    let xs = c.loop-block.blocks.items in
    let lists = c.in_ok-lists.lists in
    record {
      count = omega (arith, ap length c.in_ok-push.ensures.items, length_push xs lists, known.count);
      each = listed_more table xs c.push.new.self.items lists c.in_ok-push.ensures.items known.each
          (subst (λ n. ListsInstances table (statements_at table n) lists) (sym known.count) c.in_ok-lists.ensures);
    }
