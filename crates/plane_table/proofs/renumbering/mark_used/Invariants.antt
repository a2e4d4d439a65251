use Rattle.std.proofs.Common.{◌≡◌, ℕ, ◌/◌, ◌<◌, length, get_or, true, false}
use Rattle.plane_table.proofs.renumbering.mark_used.Given as goal

abbrev pub invariant-loop-edge : goal.invariant-loop-edge
invariant-loop-edge l = record {
  count : length l.used ≡ length l.fn.used;
  plane : get_or l.used (l.face.plane / 2) false ≡ true;
  marked : (k : ℕ) → k < l.edge-index → get_or l.used (get_or l.face.edges k 0 / 2) false ≡ true;
  others : (k : ℕ) → get_or l.fn.used k false ≡ true → get_or l.used k false ≡ true;
}
