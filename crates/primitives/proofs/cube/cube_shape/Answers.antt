use Rattle.std.proofs.Common.{rules, ◌≡◌, ◌∙◌, sym, subst, refl, arith, get_or, pos, to_z-of_z, FitsSigned, w64}
use Rattle.primitives.specs.Shapes.{IsShape}
use Rattle.primitives.specs.Boxes.{box_faces, box_points, cube_of}
use Rattle.primitives.proofs.lemmas.BoxBodies.{cube_is_shape, same_points}
use Rattle.primitives.proofs.cube.cube_shape.Goals as goal

pub of-requires : goal.of-requires
of-requires c =
    let fx : FitsSigned w64 (get_or c.args.size 0 (pos 0)) = search rules in
    let fy : FitsSigned w64 (get_or c.args.size 1 (pos 0)) = search rules in
    let fz : FitsSigned w64 (get_or c.args.size 2 (pos 0)) = search rules in
    let points : c.in_ok-points.points.items ≡ box_points c.ends_of-x.result.low c.ends_of-x.result.high c.ends_of-y.result.low c.ends_of-y.result.high c.ends_of-z.result.low c.ends_of-z.result.high = c.in_ok-points.ensures in
    let ends = same_points _ _ _ _ _ _ _ _ _ _ _ _ (simp to_z-of_z at c.ends_of-x.ensures.low) (simp to_z-of_z at c.ends_of-x.ensures.high) (simp to_z-of_z at c.ends_of-y.ensures.low) (simp to_z-of_z at c.ends_of-y.ensures.high) (simp to_z-of_z at c.ends_of-z.ensures.low) (simp to_z-of_z at c.ends_of-z.ensures.high) in
    let shape = cube_is_shape c.args.unit c.args.center c.args.size (omega arith) (c.in_default.ensures.none refl) in
    let at_points : c.in_ok-points.points.items ≡ (cube_of c.args.unit c.args.center c.args.size).points = points ∙ ends in
    let at_faces : c.in_ok-faces.faces.items ≡ box_faces = c.in_ok-faces.ensures in
    subst IsShape (sym (λ i. record { points = at_points i; faces = at_faces i })) shape
