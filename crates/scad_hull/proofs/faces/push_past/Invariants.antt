use Rattle.std.proofs.Common.{◌≡◌, ◌∷◌, [], map, length}
use Rattle.scad_hull.specs.Hulls.{numbers_between, triples_by}
use Rattle.scad_hull.specs.Steps.{with_triples, AreFoundFaces, AreListed}
use Rattle.scad_hull.proofs.faces.push_past.Given as goal

abbrev pub invariant-loop-third : goal.invariant-loop-third
invariant-loop-third l =
    (with_triples l.points l.found.faces.items (map (λ k. l.fn.first ∷ l.fn.second ∷ k ∷ []) (numbers_between l.third (length l.points)))
    ≡ with_triples l.points l.fn.found.faces.items (triples_by (length l.points) l.fn.first l.fn.second))
    × AreFoundFaces l.points l.found × AreListed l.points l.found.faces.items l.fn.first l.fn.second l.row
