-- A design of shapes, with steps that are not singular, has a placing.
use Rattle.std.proofs.Common.{⊎_elim, ℕ, suc, ◌<◌, ◌≤◌, List, length, take, refl, arith, pos, unsigned_abs}
use Rattle.text_place.specs.declared.fault.FaultKind.TheVariants.{TooLarge, OutOfRange, TooManyPlanes}
use Rattle.plane_predicate.specs.Space.{Coefficients, Coordinates, point_at, IsInReach, IsPlane}
use Rattle.int_transform.specs.declared.affine.Affine.{Affine}
use Rattle.int_transform.specs.Maps.{image, map_of, HasSafeCoordinates, KeepsSafeCoordinates}
use Rattle.int_transform.proofs.lemmas.Ranges.{regular_map}
use Rattle.primitives.specs.Shapes.{IsShape}
use Rattle.primitives.specs.Placing.{moved_mesh, distinct_planes}
use Rattle.primitives.proofs.lemmas.Distinct.{all_of_distinct}
use Rattle.primitives.proofs.lemmas.Transforms.{faces_after}
use Rattle.csg_tree.specs.declared.op.Op.{Op}
use Rattle.csg_tree.specs.HalfSpaceTrees.{nothing, leaf}
use Rattle.scad_design.specs.Designs.{DesignTree, empty, a_leaf, joined_designs, MovedShape}
use Rattle.scad_design.specs.Placing.{PlacingOutcome, placing_tree, placing_fault, with_new_planes, placing_of_join, AreWorldPlanes, EndsInReach, PlacesDesign, PlacesLeaf, PlacesRight, StaysSafe, most_planes}
use Rattle.scad_design.specs.Trees.{AreRegular, IsSoundDesign}
use Rattle.scad_design.proofs.lemmas.Deciding.{Decided, decided_by, decided_both, decided_at_most, decided_less_ℤ, decided_all, decided_all_below, at_most_or_more}
use Rattle.scad_design.proofs.lemmas.FacePlanes.{images_are_in_reach, some_face_planes}

-- ---- the planes of a part that ends within reach
some_planes : (part : MovedShape) → IsShape part.mesh → AreRegular part.steps → EndsInReach part → (planes : List Coefficients) × AreWorldPlanes part planes
some_planes part shape regular reach =
    let f = map_of part.steps in
    let mesh = moved_mesh f part.mesh in
    let solid = faces_after f part.mesh (regular_map part.steps regular) shape.faces in
    let all = some_face_planes mesh (images_are_in_reach f part.mesh.points reach) part.mesh.faces solid in (
      distinct_planes all.0,
      record {
        reduced = all_of_distinct IsPlane all.0 all.1;
        solid = solid;
        faces = record { all = all.0; each = all.2; first = refl };
      },
    )

-- ---- the limits of a part
decided_coordinates : (p : Coordinates) → Decided (HasSafeCoordinates p)
decided_coordinates p =
    decided_by (λ h. record { x_size = h.0; y_size = h.1.0; z_size = h.1.1 }) (λ h. (h.x_size, (h.y_size, h.z_size)))
    (decided_both (decided_at_most (unsigned_abs p.x) 9007199254740991)
    (decided_both (decided_at_most (unsigned_abs p.y) 9007199254740991) (decided_at_most (unsigned_abs p.z) 9007199254740991)))

abbrev StaysBelow : List Affine → Coordinates → Type 0
StaysBelow steps p = (k : ℕ) → k < suc (length steps) → HasSafeCoordinates (image (map_of (take k steps)) p)

decided_range : (steps : List Affine) (p : Coordinates) → Decided (KeepsSafeCoordinates steps p)
decided_range steps p =
    decided_by {P = StaysBelow steps p} (λ h k le. h k (omega (arith, le))) (λ h k lt. h k (omega (arith, lt)))
    (decided_all_below (suc (length steps)) (λ k. HasSafeCoordinates (image (map_of (take k steps)) p)) (λ k lt. decided_coordinates (image (map_of (take k steps)) p)))

pub decided_safe : (part : MovedShape) → Decided (StaysSafe part)
decided_safe part = decided_all (λ p. KeepsSafeCoordinates part.steps (point_at p)) (λ p. decided_range part.steps (point_at p)) part.mesh.points

decided_reach : (p : Coordinates) → Decided (IsInReach p)
decided_reach p =
    decided_by (λ h. record { weight = h.0; x_size = h.1.0; y_size = h.1.1.0; z_size = h.1.1.1 }) (λ h. (h.weight, (h.x_size, (h.y_size, h.z_size))))
    (decided_both (decided_less_ℤ (pos 0) p.w)
    (decided_both (decided_at_most (unsigned_abs p.x) _)
    (decided_both (decided_at_most (unsigned_abs p.y) _) (decided_at_most (unsigned_abs p.z) _))))

decided_near : (part : MovedShape) → Decided (EndsInReach part)
decided_near part = decided_all (λ p. IsInReach (image (map_of part.steps) (point_at p))) (λ p. decided_reach (image (map_of part.steps) (point_at p))) part.mesh.points

-- ---- a part
more_than : (n : ℕ) → (n ≤ most_planes → ⊥) → most_planes < n
more_than n h = ⊎_elim (λ k. absurd (h k)) (λ k. k) (at_most_or_more n most_planes)

with_planes : (part : MovedShape) (known planes : List Coefficients) → StaysSafe part → EndsInReach part → AreWorldPlanes part planes → (out : PlacingOutcome) × PlacesLeaf part known out
with_planes part known planes safe reach are =
    ⊎_elim (λ few. (placing_tree (leaf planes) (with_new_planes known planes), (planes, record { safe = safe; reach = reach; planes_are = are; few = few }, refl, refl)))
    (λ more. (placing_fault TooManyPlanes part.at, ((safe, reach, (planes, are, more_than (length (with_new_planes known planes)) more)), refl)))
    (decided_at_most (length (with_new_planes known planes)) most_planes)

some_part : (part : MovedShape) (known : List Coefficients) → IsShape part.mesh → AreRegular part.steps → (out : PlacingOutcome) × PlacesLeaf part known out
some_part part known shape regular =
    ⊎_elim (λ safe.
    ⊎_elim (λ reach. let planes = some_planes part shape regular reach in with_planes part known planes.0 safe reach planes.1)
    (λ far. (placing_fault OutOfRange part.at, ((safe, far), refl)))
    (decided_near part))
    (λ large. (placing_fault TooLarge part.at, (large, refl)))
    (decided_safe part)

-- ---- a design
some_right : (op : Op) (right : List Coefficients → PlacingOutcome → Type 0) → ((known : List Coefficients) → (out : PlacingOutcome) × right known out) → (first : PlacingOutcome) → (out : PlacingOutcome) × PlacesRight right op first out
some_right op right some (placing_fault kind at) = (placing_fault kind at, refl)
some_right op right some (placing_tree tree known) = let next = some known in (placing_of_join op tree next.0, (next.0, next.1, refl))

pub some_placing : (design : DesignTree) (known : List Coefficients) → IsSoundDesign design → (out : PlacingOutcome) × PlacesDesign design known out
some_placing empty known h = (placing_tree nothing known, refl)
some_placing (a_leaf part) known h = some_part part known h.0 h.1
some_placing (joined_designs op left right) known h =
    let first = some_placing left known h.0 in
    let out = some_right op (PlacesDesign right) (λ known. some_placing right known h.1) first.0 in
    (out.0, (first.0, first.1, out.1))
