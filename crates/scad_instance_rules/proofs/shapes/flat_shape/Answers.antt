use Rattle.std.proofs.Common.{rules, w64, to_z-of_z, FitsSigned}
use Rattle.scad_instance_rules.proofs.ShapeAnswers.{square_answer, polygon_answer, circle_answer}
use Rattle.scad_instance_rules.proofs.shapes.flat_shape.Goals as goal

pub returns-in-Square : goal.returns-in-Square
returns-in-Square c = rw c.in-Square.is (square_answer c.args.unit c.in-Square.center c.in-Square.size c.square_flat.result c.square_flat.ensures.flat c.square_flat.ensures.sizes c.square_flat.ensures.stops)

pub returns-in-Polygon : goal.returns-in-Polygon
returns-in-Polygon c =
    rw (c.in-Polygon.is, ← c.deref.ensures.value)
    (polygon_answer c.args.unit c.deref.result.now c.polygon_flat.result c.polygon_flat.ensures.flat c.polygon_flat.ensures.checks c.polygon_flat.ensures.stops)

pub returns-in-Circle : goal.returns-in-Circle
returns-in-Circle c =
    let radius : FitsSigned w64 c.in-Circle.radius = search rules in
    let flat = simp to_z-of_z at c.circle_flat.ensures.flat in
    let size = simp to_z-of_z at c.circle_flat.ensures.size in
    let stops = simp to_z-of_z at c.circle_flat.ensures.stops in
    rw c.in-Circle.is (circle_answer c.args.unit c.in-Circle.radius c.circle_flat.result flat size stops)
