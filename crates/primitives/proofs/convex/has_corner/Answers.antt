use Rattle.std.proofs.Common.{◌≡◌, arith, List, [], ℤ, pos, All}
use Rattle.std.proofs.lemmas.List.{get_or_default}
use Rattle.primitives.proofs.lemmas.Lists.{all_done, all_next}
use Rattle.primitives.specs.Polygons.{polygon_point, orientation}
use Rattle.primitives.proofs.convex.has_corner.Goals as goal

pub returns-then-bends-clause-yes : goal.returns-then-bends-clause-yes
returns-then-bends-clause-yes c =
    let at = c.loop-second.second-index in
    let here = polygon_point c.args.points.now at in
    (at, here, c.loop-second-test.true, get_or_default c.args.points.now at here [] c.loop-second-test.true, c.if-bends.ensures.yes)

pub loop-second-preserved : goal.loop-second-preserved
loop-second-preserved c =
    all_next (λ (q : List ℤ). All (λ (r : List ℤ). orientation (polygon_point c.args.points.now 0) q r ≡ pos 0) c.args.points.now) c.args.points.now c.loop-second.second-index [] (omega arith) c.loop-second.invariant c.if-bends.ensures.no

pub returns-clause-no : goal.returns-clause-no
returns-clause-no c = all_done (λ (q : List ℤ). All (λ (r : List ℤ). orientation (polygon_point c.args.points.now 0) q r ≡ pos 0) c.args.points.now) c.args.points.now c.loop-second.second-index (omega arith) c.loop-second.invariant
