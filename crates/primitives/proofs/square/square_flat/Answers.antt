use Rattle.std.proofs.Common.{rules, ◌≡◌, ◌∙◌, sym, subst, refl, arith, get_or, pos, to_z-of_z, FitsSigned, w64}
use Rattle.primitives.specs.Polygons.{rectangle_of, square_of, IsFlatShape}
use Rattle.primitives.proofs.lemmas.Rectangles.{same_rectangle, square_is_flat}
use Rattle.primitives.proofs.square.square_flat.Goals as goal

pub of-requires : goal.of-requires
of-requires c =
    let fx : FitsSigned w64 (get_or c.args.size 0 (pos 0)) = search rules in
    let fy : FitsSigned w64 (get_or c.args.size 1 (pos 0)) = search rules in
    let points : c.in_ok-points.points.items ≡ rectangle_of c.ends_of-x.result.low c.ends_of-x.result.high c.ends_of-y.result.low c.ends_of-y.result.high = c.in_ok-points.ensures in
    let ends = same_rectangle _ _ _ _ _ _ _ _ (simp to_z-of_z at c.ends_of-x.ensures.low) (simp to_z-of_z at c.ends_of-x.ensures.high) (simp to_z-of_z at c.ends_of-y.ensures.low) (simp to_z-of_z at c.ends_of-y.ensures.high) in
    let same : c.in_ok-points.points.items ≡ square_of c.args.unit c.args.center c.args.size = points ∙ ends in
    subst IsFlatShape (sym same) (square_is_flat c.args.unit c.args.center c.args.size (omega arith) (c.in_default.ensures.none refl))
