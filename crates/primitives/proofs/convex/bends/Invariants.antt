use Rattle.std.proofs.Common.{◌≡◌, List, ℤ, pos, All, take}
use Rattle.primitives.specs.Polygons.{orientation}
use Rattle.primitives.proofs.convex.bends.Given as goal

abbrev pub invariant-loop-third : goal.invariant-loop-third
invariant-loop-third l = All (λ (r : List ℤ). orientation l.first l.second r ≡ pos 0) (take l.third-index l.points)
