use Rattle.std.proofs.Common.{◌≡◌, ℕ, ◌<◌, length, get_or}
use Rattle.scad_func.specs.Definitions.{statements_at}
use Rattle.scad_func.specs.View.{table_in}
use Rattle.scad_instance_rules.specs.declared.table.BlockInstances.{BlockInstances}
use Rattle.scad_instance_rules.specs.Listing.{ListsInstances}
use Rattle.scad_instance_rules.proofs.table.InstanceTable.of.Given as goal

abbrev pub invariant-loop-block : goal.invariant-loop-block
invariant-loop-block l = record {
  count : length l.blocks.items ≡ l.block;
  each : (n : ℕ) (d : BlockInstances) → n < length l.blocks.items
      → ListsInstances (table_in l.source) (statements_at (table_in l.source) n) (get_or l.blocks.items n d);
}
