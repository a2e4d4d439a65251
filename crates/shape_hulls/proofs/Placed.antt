-- Points inside placed shapes.
use Rattle.std.proofs.Common.{◌↔◌, ◌+◌, ◌<◌, List, [], length, get_or, arith, sym, subst, refl, ℕ, ℤ, pos, ◌<ℤ◌, All}
use Rattle.std.proofs.lemmas.List.{length-map}
use Rattle.std.proofs.lemmas.List.Elements.{All-from_recursion}
use Rattle.plane_predicate.specs.Space.{Coefficients, Coordinates, point_at, IsInReach}
use Rattle.int_transform.specs.declared.affine.Affine.{Affine}
use Rattle.int_transform.specs.Maps.{coordinate_list, image}
use Rattle.primitives.specs.Placing.{moved_mesh, IsBehindAll}
use Rattle.primitives.specs.Shapes.{Mesh, IsFaceOfShape, IsInside}
use Rattle.primitives.proofs.lemmas.Transforms.{inside-placed, inside-planes, some_points}
use Rattle.scad_hull.specs.Combinations.{IsInnerCombination}
use Rattle.shape_hulls.specs.OwnHulls.{corner_points, ArePlacedPlanes, IsHullOfItsCorners, IsHullOfItsPoints}
use Rattle.shape_hulls.proofs.FacePoints.{each_point, place_in, AtCorners}
use Rattle.shape_hulls.proofs.Moved.{moved_is_hull, moved_is_hull_of_faces}
use Rattle.shape_hulls.proofs.Reach.{combined_in_reach}
use Rattle.shape_hulls.proofs.Regular.{regular_by}

pub image_behind : (mesh : Mesh) (f : Affine) (planes : List Coefficients) → ArePlacedPlanes mesh f planes → (p : Coordinates) → IsInside mesh p ↔ IsBehindAll planes (image f p)
image_behind mesh f planes h p =
    inside-placed f mesh (moved_mesh f mesh).points mesh.faces planes (record { shape = h.shape; regular = λ some. regular_by mesh f h.shape h.solid; points_are = refl; faces_are = refl }) h.planes_are p

pub placed_is_hull : (mesh : Mesh) (f : Affine) (planes : List Coefficients) → ArePlacedPlanes mesh f planes → IsHullOfItsPoints mesh → IsHullOfItsPoints (moved_mesh f mesh)
placed_is_hull mesh f planes h hull = moved_is_hull mesh f h.shape (regular_by mesh f h.shape h.solid) hull

-- a point is behind all planes of the placed shape exactly where it is an inner combination of the placed points
pub behind_combined : (mesh : Mesh) (f : Affine) (planes : List Coefficients) → ArePlacedPlanes mesh f planes → IsHullOfItsPoints mesh → (q : Coordinates) → pos 0 <ℤ q.w → IsBehindAll planes q ↔ IsInnerCombination (moved_mesh f mesh).points q
behind_combined mesh f planes h hull q above =
    let behind = inside-planes (moved_mesh f mesh) h.solid planes h.planes_are q in
    let combined = (placed_is_hull mesh f planes h hull).inside q above in
    (λ b. combined.0 (behind.1 b), λ c. behind.0 (combined.1 c))

-- and then it is within reach, where the placed points are
pub behind_in_reach : (mesh : Mesh) (f : Affine) (planes : List Coefficients) → ArePlacedPlanes mesh f planes → IsHullOfItsPoints mesh → All (λ p. IsInReach (point_at p)) (moved_mesh f mesh).points → (q : Coordinates) → pos 0 <ℤ q.w → IsBehindAll planes q → IsInReach q
behind_in_reach mesh f planes h hull reach q above behind =
    let some : 0 < length (moved_mesh f mesh).points = subst (λ (n : ℕ). 0 < n) (sym (length-map mesh.points (λ (p : List ℤ). coordinate_list (image f (point_at p))))) (some_points mesh h.shape) in
    combined_in_reach (moved_mesh f mesh).points q above some ((behind_combined mesh f planes h hull q above).0 behind) reach

-- ---- the same of the points of the faces
pub placed_is_hull_of_faces : (mesh : Mesh) (f : Affine) (planes : List Coefficients) → ArePlacedPlanes mesh f planes → IsHullOfItsCorners mesh → IsHullOfItsCorners (moved_mesh f mesh)
placed_is_hull_of_faces mesh f planes h hull = moved_is_hull_of_faces mesh f h.shape (regular_by mesh f h.shape h.solid) hull

pub behind_combined_of_faces : (mesh : Mesh) (f : Affine) (planes : List Coefficients) → ArePlacedPlanes mesh f planes → IsHullOfItsCorners mesh → (q : Coordinates) → pos 0 <ℤ q.w → IsBehindAll planes q ↔ IsInnerCombination (corner_points (moved_mesh f mesh)) q
behind_combined_of_faces mesh f planes h hull q above =
    let behind = inside-planes (moved_mesh f mesh) h.solid planes h.planes_are q in
    let combined = (placed_is_hull_of_faces mesh f planes h hull).inside q above in
    (λ b. combined.0 (behind.1 b), λ c. behind.0 (combined.1 c))

all_there : (mesh : Mesh) (f : Affine) → All (IsFaceOfShape (moved_mesh f mesh)) mesh.faces → (P : List ℤ → Type 0) → All P (moved_mesh f mesh).points → AtCorners (moved_mesh f mesh) P
all_there mesh f solid P h = λ k d lt i e li. h (get_or (get_or mesh.faces k d) i e) [] ((solid k d lt).there i e li)

some_face_points : (mesh : Mesh) → 0 < length mesh.faces → All (IsFaceOfShape mesh) mesh.faces → 0 < length (corner_points mesh)
some_face_points mesh some solid = omega (arith, place_in mesh 0 0 some (omega (arith, (solid 0 [] some).triangle.first_in)))

pub behind_in_reach_of_faces : (mesh : Mesh) (f : Affine) (planes : List Coefficients) → ArePlacedPlanes mesh f planes → IsHullOfItsCorners mesh → All (λ p. IsInReach (point_at p)) (moved_mesh f mesh).points → (q : Coordinates) → pos 0 <ℤ q.w → IsBehindAll planes q → IsInReach q
behind_in_reach_of_faces mesh f planes h hull reach q above behind =
    combined_in_reach (corner_points (moved_mesh f mesh)) q above (some_face_points (moved_mesh f mesh) h.shape.some h.solid) ((behind_combined_of_faces mesh f planes h hull q above).0 behind)
    (All-from_recursion (λ p. IsInReach (point_at p)) (corner_points (moved_mesh f mesh)) (each_point (moved_mesh f mesh) (λ p. IsInReach (point_at p)) (all_there mesh f h.solid (λ p. IsInReach (point_at p)) reach)))
