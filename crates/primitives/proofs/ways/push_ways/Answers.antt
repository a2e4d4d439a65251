use Rattle.std.proofs.Common.{◌≡◌, ℕ, [], ◌++◌, get_or, subst}
use Rattle.primitives.specs.DirectedEdges.{edge_at_place, edge_between}
use Rattle.primitives.proofs.Rounds.{ways_next}
use Rattle.primitives.proofs.ways.push_ways.Goals as goal

pub loop-k-preserved : goal.loop-k-preserved
loop-k-preserved c =
    let points = c.args.points.now in let face = c.args.face.now in let k = c.loop-k.k in
    ways_next (edge_at_place points face) k c.args.ways.now.items c.loop-k.ways.items c.push_way.new.ways.items c.loop-k.invariant
    (subst (λ (n : ℕ). c.push_way.new.ways.items ≡ c.loop-k.ways.items ++ edge_between (get_or points (get_or face k 0) []) (get_or points (get_or face n 0) [])) c.next_place-next.ensures.next c.in_ok-push_way.ensures)
