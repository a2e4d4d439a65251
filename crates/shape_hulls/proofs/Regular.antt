-- A map that leaves the faces of a shape faces of a body is not singular.
use Rattle.std.proofs.Common.{◌≡◌, ◌∙◌, List, [], ◌∷◌, get_or, refl, ℤ, pos, ◌*ℤ◌, All}
use Rattle.plane_predicate.specs.Space.{plane_of_points, value}
use Rattle.plane_predicate.proofs.lemmas.Polynomials.{times, ring}
use Rattle.plane_predicate.proofs.lemmas.Vectors.{determinantP, form, valueP}
use Rattle.int_transform.specs.declared.affine.Affine.{Affine}
use Rattle.int_transform.specs.Maps.{determinant_of, image}
use Rattle.int_transform.proofs.lemmas.Images.{imageP, of_map}
use Rattle.primitives.specs.Placing.{moved_mesh}
use Rattle.primitives.specs.Shapes.{Mesh, mesh_point, IsFaceOfShape, IsShape}
use Rattle.primitives.proofs.lemmas.Moves.{throughP, whole, wholeP}
use Rattle.primitives.proofs.lemmas.OnePlane.{not_zero_below, off_the_plane}
use Rattle.primitives.proofs.lemmas.Transforms.{corner-moved_mesh}
use Rattle.shape_hulls.proofs.Axes.{no_times}

-- the determinant of the images of four points
volume_moved : (f : Affine) (a b c d e g h i j x y z : ℤ) → value (plane_of_points (image f (whole a b c)) (image f (whole d e g)) (image f (whole h i j))) (image f (whole x y z)) ≡ determinant_of f *ℤ value (plane_of_points (whole a b c) (whole d e g) (whole h i j)) (whole x y z)
volume_moved f a b c d e g h i j x y z =
    let X = form 0 in let Y = form 4 in let Z = form 8 in let P = wholeP 12 in let Q = wholeP 15 in let R = wholeP 18 in let S = wholeP 21 in
    ring (of_map f (a ∷ b ∷ c ∷ d ∷ e ∷ g ∷ h ∷ i ∷ j ∷ x ∷ y ∷ z ∷ []))
    (valueP (throughP (imageP X Y Z P) (imageP X Y Z Q) (imageP X Y Z R)) (imageP X Y Z S))
    (times (determinantP X.a X.b X.c Y.a Y.b Y.c Z.a Z.b Z.c) (valueP (throughP P Q R) S)) refl

pub regular_by : (mesh : Mesh) (f : Affine) → IsShape mesh → All (IsFaceOfShape (moved_mesh f mesh)) mesh.faces → determinant_of f ≡ pos 0 → ⊥
regular_by mesh f shape solid none =
    let points = mesh.points in
    let images = (moved_mesh f mesh).points in
    let face = get_or mesh.faces 0 [] in
    let is = solid 0 [] shape.some in
    let t = is.triangle in
    let there = (shape.faces 0 [] shape.some).there in
    let i = get_or face t.first 0 in let j = get_or face t.second 0 in let k = get_or face t.third 0 in
    let s = get_or (get_or mesh.faces is.body.at_face []) is.body.at 0 in
    let ei = corner-moved_mesh f points i (there t.first 0 t.first_in) in
    let ej = corner-moved_mesh f points j (there t.second 0 t.second_in) in
    let ek = corner-moved_mesh f points k (there t.third 0 t.third_in) in
    let es = corner-moved_mesh f points s ((shape.faces is.body.at_face [] is.body.at_face_in).there is.body.at 0 is.body.at_in) in
    let a : List ℤ = get_or images i [] in let b : List ℤ = get_or images j [] in let c : List ℤ = get_or images k [] in
    let p = mesh_point points i in let q = mesh_point points j in let r = mesh_point points k in let o = mesh_point points s in
    let same : value (plane_of_points (mesh_point images i) (mesh_point images j) (mesh_point images k)) (mesh_point images s) ≡ value (plane_of_points (image f p) (image f q) (image f r)) (image f o) = λ n. value (plane_of_points (ei n) (ej n) (ek n)) (es n) in
    let flat = same ∙ volume_moved f p.x p.y p.z q.x q.y q.z r.x r.y r.z o.x o.y o.z ∙ no_times (determinant_of f) (value (plane_of_points p q r) o) none in
    off_the_plane is.body.plane (get_or a 0 (pos 0)) (get_or a 1 (pos 0)) (get_or a 2 (pos 0)) (get_or b 0 (pos 0)) (get_or b 1 (pos 0)) (get_or b 2 (pos 0)) (get_or c 0 (pos 0)) (get_or c 1 (pos 0)) (get_or c 2 (pos 0))
    (record { first = is.body.is.on t.first 0 t.first_in; second = is.body.is.on t.second 0 t.second_in; third = is.body.is.on t.third 0 t.third_in })
    t.apart (mesh_point images s) (not_zero_below (value is.body.plane (mesh_point images s)) is.body.behind) flat
