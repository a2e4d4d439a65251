use Rattle.std.proofs.Common.{◌∙◌, ◌<ℤ◌, ap, subst, arith, get_or, pos}
use Rattle.plane_predicate.specs.Space.{Coefficients, opposite_of, value}
use Rattle.primitives.specs.Shapes.{mesh_point, value_at_point}
use Rattle.scad_hull.specs.Steps.{HasNoFace}
use Rattle.scad_hull.proofs.lemmas.Lines.{plane}
use Rattle.scad_hull.proofs.PlaneRows.{carried}
use Rattle.scad_hull.proofs.Surrounded.{surrounded}
use Rattle.scad_hull.proofs.around.surround.Goals as goal

pub returns : goal.returns
returns c =
    let points = c.args.points.now in
    let i = c.args.first in
    let j = c.args.second in
    let p = get_or c.args.around 0 0 in
    let q = get_or c.args.around 1 0 in
    let r = get_or c.args.around 2 0 in
    let three = c.requires.around.three in
    let there = c.requires.around.there in
    let first : pos 0 <ℤ value_at_point points (plane points i j p) q =
    subst (λ (m : Coefficients). pos 0 <ℤ value_at_point points m q) c.through-plane.ensures c.if-not-is_point_ahead.ensures in
    let third : pos 0 <ℤ value (opposite_of (plane points i j p)) (mesh_point points r) =
    subst (λ (m : Coefficients). pos 0 <ℤ value_at_point points m r) (c.opposite.ensures ∙ ap opposite_of c.through-plane.ensures) c.if-not-is_point_ahead-2.ensures in
    carried c.is_point_ahead-3.result _ (HasNoFace points i j)
    (λ above. surrounded points i j p q r (there 0 0 (omega (arith, three))) (there 1 0 (omega (arith, three))) (there 2 0 (omega (arith, three))) (record {
      first = first;
      second = subst (λ (m : Coefficients). pos 0 <ℤ value_at_point points m r) c.through-next.ensures above;
      third = third;
    })) c.is_point_ahead-3.ensures
