use Rattle.std.proofs.Common.{rules, w64, to_z-of_z, FitsSigned}
use Rattle.scad_instance_rules.proofs.ShapeAnswers.{cube_answer, polyhedron_answer, cylinder_answer}
use Rattle.scad_instance_rules.proofs.shapes.solid_shape.Goals as goal

pub returns-in-Cube : goal.returns-in-Cube
returns-in-Cube c = rw c.in-Cube.is (cube_answer c.args.unit c.in-Cube.center c.in-Cube.size c.cube_shape.result c.cube_shape.ensures.shape c.cube_shape.ensures.sizes c.cube_shape.ensures.stops)

pub returns-in-Polyhedron : goal.returns-in-Polyhedron
returns-in-Polyhedron c =
    rw (c.in-Polyhedron.is, ← c.deref.ensures.value, ← c.deref-in-Polyhedron.ensures.value)
    (polyhedron_answer c.args.unit c.deref.result.now c.deref-in-Polyhedron.result.now c.polyhedron_shape.result c.polyhedron_shape.ensures.shape c.polyhedron_shape.ensures.polyhedron c.polyhedron_shape.ensures.fault)

pub returns-in-Cylinder : goal.returns-in-Cylinder
returns-in-Cylinder c =
    let height : FitsSigned w64 c.in-Cylinder.height = search rules in
    let low : FitsSigned w64 c.in-Cylinder.low = search rules in
    let high : FitsSigned w64 c.in-Cylinder.high = search rules in
    let shape = simp to_z-of_z at c.cylinder_shape.ensures.shape in
    let sizes = simp to_z-of_z at c.cylinder_shape.ensures.sizes in
    let stops = simp to_z-of_z at c.cylinder_shape.ensures.stops in
    rw c.in-Cylinder.is (cylinder_answer c.args.unit c.in-Cylinder.center c.in-Cylinder.height c.in-Cylinder.low c.in-Cylinder.high c.cylinder_shape.result shape sizes stops)
