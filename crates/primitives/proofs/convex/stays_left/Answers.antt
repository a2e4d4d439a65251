use Rattle.std.proofs.Common.{rules, ◌≤ℤ◌, arith, List, [], ℤ, pos, subst, to_z-of_z, FitsSigned, w64}
use Rattle.std.proofs.lemmas.Int.{ints}
use Rattle.primitives.proofs.lemmas.Lists.{all_done, all_next}
use Rattle.primitives.specs.Polygons.{orientation}
use Rattle.primitives.proofs.convex.stays_left.Goals as goal

pub loop-point-preserved : goal.loop-point-preserved
loop-point-preserved c =
    let f : FitsSigned w64 c.orientation_of.result = search rules in
    let e = c.orientation_of.ensures in
    let test = simp to_z-of_z at c.if-orientation_of-lt0.false in
    let least : pos 0 ≤ℤ c.orientation_of.result = omega (arith, ints, test) in
    all_next (λ (r : List ℤ). pos 0 ≤ℤ orientation c.args.from c.args.to r) c.args.points.now c.loop-point.point-index [] (omega arith) c.loop-point.invariant (subst (λ (z : ℤ). pos 0 ≤ℤ z) e least)

pub returns-clause-yes : goal.returns-clause-yes
returns-clause-yes c = all_done (λ (r : List ℤ). pos 0 ≤ℤ orientation c.args.from c.args.to r) c.args.points.now c.loop-point.point-index (omega arith) c.loop-point.invariant
