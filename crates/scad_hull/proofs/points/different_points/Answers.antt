use Rattle.std.proofs.Common.{rules, ◌≡◌, ◌∙◌, ◌+◌, ◌<◌, [], ap, get_or, length, take, arith, List, ℤ}
use Rattle.scad_hull.specs.Hulls.{points_in_order, point_put_among}
use Rattle.scad_hull.proofs.Orders.{more_different, next_different}
use Rattle.scad_hull.proofs.points.different_points.Goals as goal

pub returns-then-len-gt-POINTS-clause-stops : goal.returns-then-len-gt-POINTS-clause-stops
returns-then-len-gt-POINTS-clause-stops c =
    let given = c.args.points.now in
    let i = c.loop-point.point-index in
    let e : c.put_point.new.points.items ≡ points_in_order (take (i + 1) given) = c.in_ok-put_point.ensures ∙ ap (point_put_among (get_or given i [])) c.loop-point.invariant.0 ∙ next_different given i [] (omega arith) in
    let same = ap (λ (ps : List (List ℤ)). length ps) e in
    let many : 128 < length c.put_point.new.points.items = search rules in
    omega (arith, many, same, more_different given (i + 1))
