use Rattle.std.proofs.Common.{◌≡◌, map, take}
use Rattle.plane_table.specs.Tables.{plane_named}
use Rattle.plane_table.proofs.faces.polygon_of.Given as goal

abbrev pub invariant-loop-number : goal.invariant-loop-number
invariant-loop-number l = l.edges.items ≡ map (plane_named l.table) (take l.number-index l.face.edges)
