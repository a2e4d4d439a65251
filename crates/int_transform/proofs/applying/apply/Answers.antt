use Rattle.std.proofs.Common.{◌≡◌, ◌<◌, ℤ, List, [], Option, IfSome, OnSome, pos, arith, get_or, length, subst}
use Rattle.plane_predicate.specs.Space.{point_at}
use Rattle.int_transform.specs.Maps.{coordinate_list, determinant_of, image, map_of, KeepsSafeCoordinates}
use Rattle.int_transform.proofs.lemmas.Ranges.{all_next, images_next}
use Rattle.int_transform.proofs.applying.apply.Goals as goal

pub loop-point-preserved : goal.loop-point-preserved
loop-point-preserved c =
    let steps = c.args.steps.now in
    let points = c.args.points.now in
    let i = c.loop-point.point-index in
    let p : List ℤ = get_or points i [] in
    let within : i < length points = omega arith in
    let P : Option (List ℤ) → Type 0 = λ o. IfSome o (λ q. (q ≡ coordinate_list (image (map_of steps) (point_at p))) × KeepsSafeCoordinates steps (point_at p)) in
    let next = subst P c.in_ok-image.ensures.ok_part c.image_under.ensures.some in
    let R : Option (List ℤ) → Type 0 = λ o. OnSome o (determinant_of (map_of steps) ≡ pos 0 → ⊥) in
    let regular = subst R c.in_ok-image.ensures.ok_part c.image_under.ensures.regular in
    record {
      images = rw c.in_ok-push.ensures.items (images_next (λ (q : List ℤ). coordinate_list (image (map_of steps) (point_at q))) points c.loop-point.images.items i [] c.in_ok-image.image within c.loop-point.invariant.images next.0);
      in_range = all_next (λ (q : List ℤ). KeepsSafeCoordinates steps (point_at q)) points i [] within c.loop-point.invariant.in_range next.1;
      regular = λ _. regular;
    }
