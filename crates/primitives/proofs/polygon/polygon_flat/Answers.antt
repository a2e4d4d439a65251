use Rattle.std.proofs.Common.{◌≡◌, ◌∙◌, sym, subst, arith, All}
use Rattle.primitives.specs.Polygons.{polygon_of, IsConvexPolygon, IsFlatShape, IsFlatPointWithinGridLimits}
use Rattle.primitives.proofs.lemmas.Grids.{near_grid, polygon_is_flat}
use Rattle.primitives.proofs.polygon.polygon_flat.Goals as goal

pub is_convex-requires-clause-near : goal.is_convex-requires-clause-near
is_convex-requires-clause-near c =
    let same : c.deref.result.now ≡ polygon_of c.args.unit c.args.points.now = c.deref.ensures.value ∙ c.in_ok-grid.ensures in
    subst (All IsFlatPointWithinGridLimits) (sym same) (near_grid c.args.unit c.args.points.now c.if-not-are_in_range.ensures.all)

pub returns-then-not-is_convex-clause-stops : goal.returns-then-not-is_convex-clause-stops
returns-then-not-is_convex-clause-stops c =
    let same : c.deref.result.now ≡ polygon_of c.args.unit c.args.points.now = c.deref.ensures.value ∙ c.in_ok-grid.ensures in
    (omega arith, omega arith, c.if-not-are_in_range.ensures.all, λ h. c.if-not-is_convex.ensures.no (subst IsConvexPolygon (sym same) h))

pub of-requires : goal.of-requires
of-requires c =
    let same : c.deref.result.now ≡ polygon_of c.args.unit c.args.points.now = c.deref.ensures.value ∙ c.in_ok-grid.ensures in
    let convex = subst IsConvexPolygon same c.if-not-is_convex.ensures.yes in
    subst IsFlatShape (sym c.in_ok-grid.ensures) (polygon_is_flat c.args.unit c.args.points.now (record { most = omega arith; least = omega arith; range = c.if-not-are_in_range.ensures.all; convex = convex }))
