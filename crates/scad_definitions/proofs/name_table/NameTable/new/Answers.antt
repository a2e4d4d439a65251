use Rattle.std.proofs.Common.{rules}
use Rattle.scad_definitions.specs.Index.{place_of_name}
use Rattle.scad_definitions.proofs.Expected.{nothing_placed}
use Rattle.scad_definitions.proofs.name_table.NameTable.new.Goals as goal

pub invariant_of-result : goal.invariant_of-result
invariant_of-result c =
    record {
      placed = nothing_placed c.new.result.items (place_of_name c.new-2.result) (search rules) (λ name. search rules);
    }
