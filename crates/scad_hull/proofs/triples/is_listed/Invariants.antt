use Rattle.std.proofs.Common.{◌≡◌, false, take}
use Rattle.std.specs.List.{list_any}
use Rattle.scad_hull.specs.Hulls.{shares_plane}
use Rattle.scad_hull.proofs.triples.is_listed.Given as goal

abbrev pub invariant-loop-face : goal.invariant-loop-face
invariant-loop-face l = list_any (λ s. shares_plane l.points s l.triple) (take l.face-index l.faces) ≡ false
