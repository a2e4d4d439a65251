use Rattle.std.proofs.Common.{rules, ◌≡◌, sym, subst, All, List, ℤ}
use Rattle.std.proofs.lemmas.Result.{err_from_is_err_and}
use Rattle.plane_predicate.specs.Space.{point_at}
use Rattle.primitives.specs.Checks.{grid_points_of}
use Rattle.primitives.specs.Polyhedra.{IsSurfaceFault}
use Rattle.primitives.specs.GridSizes.{IsWithinGridLimits}
use Rattle.primitives.proofs.PolyhedronGrids.{are_on_grid}
use Rattle.primitives.proofs.FirstFaults.{surface_fault}
use Rattle.primitives.proofs.polyhedron.checked_points.Goals as goal

pub check_surface-requires-clause-grid : goal.check_surface-requires-clause-grid
check_surface-requires-clause-grid c =
    let e : c.deref.result.now ≡ grid_points_of c.args.unit c.args.points.now = search rules in
    subst (All (λ (p : List ℤ). IsWithinGridLimits (point_at p))) (sym e) (are_on_grid c.args.unit c.args.points.now c.in_ok-check_written.ensures.written.range)

pub returns-in_err-check_surface-clause-fault : goal.returns-in_err-check_surface-clause-fault
returns-in_err-check_surface-clause-fault c =
    let e : c.deref.result.now ≡ grid_points_of c.args.unit c.args.points.now = search rules in
    let stop = c.in_err-check_surface.field-0.0 in
    let fault = subst (λ (ps : List (List ℤ)). IsSurfaceFault (record { points = ps; faces = c.args.faces.now }) stop) e c.in_err-check_surface.ensures.fault in
    let p = err_from_is_err_and c.from_residual-in_err-check_surface.result c.from_residual-in_err-check_surface.ensures.1 in
    rw (p.1, p.2) (surface_fault c.args.unit c.args.points.now c.args.faces.now stop c.in_ok-check_written.ensures.written fault)
