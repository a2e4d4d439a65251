use Rattle.scad_design.proofs.TrimDesigns.{few_pieces, parts_grouped, parts_moved, trim_grouped, trim_moved}
use Rattle.scad_design.proofs.laws.designs_stay_trim.Goals as goal

pub returns : goal.returns
returns c = record { grouped_trim = trim_grouped; grouped_parts = parts_grouped; moved_trim = trim_moved; moved_parts = parts_moved; pieces = few_pieces }
