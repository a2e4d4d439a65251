use Rattle.std.proofs.Common.{◌≡◌, ◌∙◌, sym, ap, ap₂, subst, refl, arith, List, ℤ, pos, [], ◌∷◌, to_z-of_z}
use Rattle.primitives.specs.Shapes.{IsShape}
use Rattle.primitives.specs.Sizes.{low_end, high_end, AreSizes}
use Rattle.primitives.specs.Prisms.{extrusion_of, prism_faces, prism_points}
use Rattle.primitives.proofs.lemmas.EndFaces.{ends_of_side}
use Rattle.primitives.proofs.lemmas.PrismBodies.{prism_is_shape}
use Rattle.primitives.proofs.extrusion.extrude.Goals as goal

pub of-requires : goal.of-requires
of-requires c =
    let fits = c.ranges.height in
    let low = simp to_z-of_z at c.ends_of-z.ensures.low in
    let high = simp to_z-of_z at c.ends_of-z.ensures.high in
    let sizes : AreSizes c.args.unit c.args.center (c.args.height ∷ []) = simp to_z-of_z at (c.in_default.ensures.none refl) in
    let ends = ends_of_side c.args.unit c.args.center c.args.height (sizes.long 0 (pos 0) (omega arith)) (sizes.safe 0 (pos 0) (omega arith)) in
    let points : c.in_ok-points.points.items ≡ (extrusion_of c.args.unit c.args.center c.args.flat.now c.args.height).points =
    c.in_ok-points.ensures
    ∙ ap (λ (ps : List (List ℤ)). prism_points ps c.ends_of-z.result.low c.ends_of-z.result.high) c.points.ensures.points
    ∙ ap₂ (prism_points c.args.flat.now) low high in
    let faces : c.in_ok-faces.faces.items ≡ prism_faces c.args.flat.now = c.in_ok-faces.ensures ∙ ap prism_faces c.points-2.ensures.points in
    subst IsShape (sym (λ i. record { points = points i; faces = faces i })) (prism_is_shape c.args.flat.now (low_end c.args.unit c.args.center c.args.height) (high_end c.args.unit c.args.center c.args.height) ends c.points.ensures.flat)
