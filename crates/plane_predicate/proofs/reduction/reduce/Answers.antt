use Rattle.std.proofs.Common.{rules, to_z-of_z, FitsSigned}
use Rattle.plane_predicate.specs.Space.{Coordinates, AreQuotients}
use Rattle.plane_predicate.proofs.lemmas.Divisions.{reduced_is_point, reduced_is_same}
use mir.Syntax.{w128}
use Rattle.plane_predicate.proofs.reduction.reduce.Goals as goal

pub invariant_of-result : goal.invariant_of-result
invariant_of-result c =
    let ix : FitsSigned w128 c.p.inside.x = search rules in
    let lx : FitsSigned w128 c.quotients-least.result.x = search rules in
    let iy : FitsSigned w128 c.p.inside.y = search rules in
    let ly : FitsSigned w128 c.quotients-least.result.y = search rules in
    let iz : FitsSigned w128 c.p.inside.z = search rules in
    let lz : FitsSigned w128 c.quotients-least.result.z = search rules in
    let iw : FitsSigned w128 c.p.inside.w = search rules in
    let lw : FitsSigned w128 c.quotients-least.result.w = search rules in
    let p : Coordinates = record { x = c.p.inside.x; y = c.p.inside.y; z = c.p.inside.z; w = c.p.inside.w } in
    let q : Coordinates = record { x = c.quotients-least.result.x; y = c.quotients-least.result.y; z = c.quotients-least.result.z; w = c.quotients-least.result.w } in
    let d : AreQuotients p.x p.y p.z p.w q.x q.y q.z q.w = simp to_z-of_z at c.quotients-least.ensures in
    simp to_z-of_z (reduced_is_point p q c.p.invariant d)

pub returns-clause-same : goal.returns-clause-same
returns-clause-same c =
    let ix : FitsSigned w128 c.p.inside.x = search rules in
    let lx : FitsSigned w128 c.quotients-least.result.x = search rules in
    let iy : FitsSigned w128 c.p.inside.y = search rules in
    let ly : FitsSigned w128 c.quotients-least.result.y = search rules in
    let iz : FitsSigned w128 c.p.inside.z = search rules in
    let lz : FitsSigned w128 c.quotients-least.result.z = search rules in
    let iw : FitsSigned w128 c.p.inside.w = search rules in
    let lw : FitsSigned w128 c.quotients-least.result.w = search rules in
    let p : Coordinates = record { x = c.p.inside.x; y = c.p.inside.y; z = c.p.inside.z; w = c.p.inside.w } in
    let q : Coordinates = record { x = c.quotients-least.result.x; y = c.quotients-least.result.y; z = c.quotients-least.result.z; w = c.quotients-least.result.w } in
    let d : AreQuotients p.x p.y p.z p.w q.x q.y q.z q.w = simp to_z-of_z at c.quotients-least.ensures in
    rw (← c.p.view_is) (simp to_z-of_z (reduced_is_same p q d))
