use Rattle.std.proofs.Common.{rules, ◌≡◌, ◌∙◌, ◌++◌, sym, subst, refl, to_z-of_z, FitsSigned, w64}
use Rattle.primitives.specs.Shapes.{Mesh, IsShape}
use Rattle.round_four.specs.Cylinders.{cylinder_between, cylinder_faces, cylinder_of, end_points}
use Rattle.round_four.proofs.lemmas.Cylinders.{cylinder_is_shape, same_cylinder}
use Rattle.round_four.proofs.cylinder.cylinder_shape.Goals as goal

pub of-requires : goal.of-requires
of-requires c =
    let low = simp (to_z-of_z, c.ranges.low_radius) at c.in_steps-low.ensures in
    let high = simp (to_z-of_z, c.ranges.high_radius) at c.in_steps-high.ensures in
    let first = simp (to_z-of_z, c.ranges.height) at c.ends_of-ends.ensures.low in
    let last = simp (to_z-of_z, c.ranges.height) at c.ends_of-ends.ensures.high in
    let fl : FitsSigned w64 c.in_steps-low.result = search rules in
    let fh : FitsSigned w64 c.in_steps-high.result = search rules in
    let points = simp to_z-of_z at c.in_ok-points.ensures in
    let at_points : c.in_ok-points.points.items ≡ end_points c.in_steps-low.result c.ends_of-ends.result.low ++ end_points c.in_steps-high.result c.ends_of-ends.result.high = points in
    let faces = simp to_z-of_z at c.in_ok-faces.ensures in
    let at_faces : c.in_ok-faces.faces.items ≡ cylinder_faces c.in_steps-low.result c.in_steps-high.result = faces in
    let same = same_cylinder _ _ _ _ _ _ _ _ low high first last in
    let sizes = simp (to_z-of_z, c.ranges.height, c.ranges.low_radius, c.ranges.high_radius) at c.in_default.ensures.none in
    let shape = cylinder_is_shape c.args.unit c.args.center c.args.height c.args.low_radius c.args.high_radius (sizes refl) in
    let mesh : Mesh = record { points = c.in_ok-points.points.items; faces = c.in_ok-faces.faces.items } in
    let listed : mesh ≡ cylinder_between c.in_steps-low.result c.in_steps-high.result c.ends_of-ends.result.low c.ends_of-ends.result.high = λ i. record { points = at_points i; faces = at_faces i } in
    let is : mesh ≡ cylinder_of c.args.unit c.args.center c.args.height c.args.low_radius c.args.high_radius = listed ∙ same in
    subst IsShape (sym is) shape

pub returns-clause-sizes : goal.returns-clause-sizes
returns-clause-sizes c =
    let sizes = simp (to_z-of_z, c.ranges.height, c.ranges.low_radius, c.ranges.high_radius) at c.in_default.ensures.none in
    sizes refl
