use Rattle.std.proofs.Common.{◌≡◌, flat_map, length}
use Rattle.scad_hull.specs.Hulls.{numbers_between, triples_by, triples_from}
use Rattle.scad_hull.specs.Steps.{with_triples, AreFoundFaces, AreThree}
use Rattle.scad_hull.proofs.faces.push_from.Given as goal

abbrev pub invariant-loop-second : goal.invariant-loop-second
invariant-loop-second l =
    (with_triples l.points l.found.faces.items (flat_map (triples_by (length l.points) l.fn.first) (numbers_between l.second (length l.points)))
    ≡ with_triples l.points l.fn.found.faces.items (triples_from (length l.points) l.fn.first))
    × AreFoundFaces l.points l.found × AreThree (length l.points) l.around
