use Rattle.std.proofs.Common.{rules, ◌≡◌, pos, IfSome, get_or, to_z-of_z, FitsSigned, w64}
use Rattle.plane_predicate.specs.Space.{point_at, plane_of_points, value, IsPlaneTimes}
use Rattle.plane_predicate.proofs.lemmas.ThroughPoints.{through_on, if_some, none_collinear}
use Rattle.plane_predicate.proofs.through.plane_through.Goals as goal

pub returns-clause-on : goal.returns-clause-on
returns-clause-on c =
    let p = c.args.p in let q = c.args.q in let r = c.args.r in
    let d : IfSome c.plane_of.result (λ m. IsPlaneTimes (plane_of_points (point_at p) (point_at q) (point_at r)) m) = search rules in
    if_some c.plane_of.result (λ m. IsPlaneTimes (plane_of_points (point_at p) (point_at q) (point_at r)) m) (λ m. (value m (point_at p) ≡ pos 0) × (value m (point_at q) ≡ pos 0) × (value m (point_at r) ≡ pos 0))
    (λ m h. through_on (get_or p 0 (pos 0)) (get_or p 1 (pos 0)) (get_or p 2 (pos 0)) (get_or q 0 (pos 0)) (get_or q 1 (pos 0)) (get_or q 2 (pos 0)) (get_or r 0 (pos 0)) (get_or r 1 (pos 0)) (get_or r 2 (pos 0)) m h) d

pub returns-clause-none : goal.returns-clause-none
returns-clause-none c =
    let p = point_at c.args.p in let q = point_at c.args.q in let r = point_at c.args.r in
    let ea : c.minor_between-a.result ≡ (plane_of_points p q r).a = search rules in
    let eb : c.minor_between-b.result ≡ (plane_of_points p q r).b = search rules in
    let ec : c.minor_between-c.result ≡ (plane_of_points p q r).c = search rules in
    let fa : FitsSigned w64 c.minor_between-a.result = search rules in
    let fb : FitsSigned w64 c.minor_between-b.result = search rules in
    let fc : FitsSigned w64 c.minor_between-c.result = search rules in
    let n = simp to_z-of_z at c.plane_of.ensures.none in
    none_collinear p q r c.minor_between-a.result c.minor_between-b.result c.minor_between-c.result ea eb ec n
