use Rattle.primitives.proofs.lemmas.CornersBehind.{map_true, map_false, corner_found, no_corner, convex_left, convex_right, not_convex}
use Rattle.primitives.proofs.convex.is_convex.Goals as goal

pub returns-then-goes_left-clause-yes : goal.returns-then-goes_left-clause-yes
returns-then-goes_left-clause-yes c =
    let k = corner_found c.args.points.now c.requires.some c.if-has_corner.ensures.yes in
    map_true c.goes_left.result _ _ (convex_left c.args.points.now k) c.goes_left.ensures.yes

pub returns-else-goes_left-clause-yes : goal.returns-else-goes_left-clause-yes
returns-else-goes_left-clause-yes c =
    let k = corner_found c.args.points.now c.requires.some c.if-has_corner.ensures.yes in
    map_true c.goes_right.result _ _ (convex_right c.args.points.now k) c.goes_right.ensures.yes

pub returns-else-goes_left-clause-no : goal.returns-else-goes_left-clause-no
returns-else-goes_left-clause-no c =
    map_false c.goes_right.result _ _ (not_convex c.args.points.now c.if-goes_left.ensures.no) c.goes_right.ensures.no

pub returns-else-has_corner-clause-no : goal.returns-else-has_corner-clause-no
returns-else-has_corner-clause-no c =
    map_false c.has_corner.result _ _ (λ none h. no_corner c.args.points.now none h.corner) c.has_corner.ensures.no
