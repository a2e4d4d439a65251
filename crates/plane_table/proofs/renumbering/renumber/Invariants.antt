use Rattle.std.proofs.Common.{◌≡◌, ◌≤◌, length, map, take}
use Rattle.plane_table.specs.Joins.{number_among}
use Rattle.plane_table.proofs.renumbering.renumber.Given as goal

abbrev pub invariant-loop-edge : goal.invariant-loop-edge
invariant-loop-edge l = record {
  found : l.found.items ≡ map (number_among l.numbers) (take l.edge-index l.face.edges);
  count : length l.found.items ≡ l.edge-index;
  room : length l.face.edges ≤ l.found.capacity;
}
