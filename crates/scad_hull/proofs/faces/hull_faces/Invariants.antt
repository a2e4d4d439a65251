use Rattle.std.proofs.Common.{◌≡◌, [], flat_map, length}
use Rattle.scad_hull.specs.Hulls.{numbers_between, triples, triples_from}
use Rattle.scad_hull.specs.Steps.{with_triples, AreFoundFaces}
use Rattle.scad_hull.proofs.faces.hull_faces.Given as goal

abbrev pub invariant-loop-first : goal.invariant-loop-first
invariant-loop-first l =
    (with_triples l.points l.found.faces.items (flat_map (triples_from (length l.points)) (numbers_between l.first (length l.points)))
    ≡ with_triples l.points [] (triples (length l.points))) × AreFoundFaces l.points l.found
