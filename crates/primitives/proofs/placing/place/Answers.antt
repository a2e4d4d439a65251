use Rattle.std.proofs.Common.{◌≡◌, ◌<◌, List, ℤ, pos, length, sym, ◌∙◌, ap, subst, All, Any, Err}
use Rattle.std.proofs.lemmas.Result.{err_from_is_err_and}
use Rattle.plane_predicate.specs.Space.{point_at, IsInReach}
use Rattle.int_transform.specs.Maps.{determinant_of, map_of, LeavesSafeCoordinates, KeepsSafeCoordinates}
use Rattle.primitives.specs.Placing.{moved_mesh}
use Rattle.primitives.proofs.lemmas.Transforms.{faces_after, some_points, images_in_reach, image_past_reach, inside-placed, placed_faces, reach_placed, some_placed, IsPlaced}
use Rattle.primitives.proofs.Stops.{placing_stop}
use Rattle.primitives.proofs.placing.place.Goals as goal

pub returns-in_err-points-clause-stops : goal.returns-in_err-points-clause-stops
returns-in_err-points-clause-stops c =
    let steps = c.args.steps.now in
    let stop = placing_stop steps c.args.shape.now.points c.in_err-points.field-0.0 (λ e.
    subst (Any (λ (p : List ℤ). LeavesSafeCoordinates steps (point_at p))) c.points.ensures.points (c.in_err-points.ensures.too_large (ap Err e))) in
    let p = err_from_is_err_and c.from_residual.result c.from_residual.ensures.1 in
    rw (p.1 ∙ ap Err p.2) stop

pub returns-then-not-are_in_reach-clause-stops : goal.returns-then-not-are_in_reach-clause-stops
returns-then-not-are_in_reach-clause-stops c =
    let f = map_of c.args.steps.now in
    let points = c.args.shape.now.points in
    let same : c.deref.result.now ≡ (moved_mesh f c.args.shape.now).points = c.deref.ensures.value ∙ c.in_ok-points.ensures.images ∙ ap (λ (ps : List (List ℤ)). (moved_mesh f (record { points = ps; faces = c.args.shape.now.faces })).points) c.points.ensures.points in
    (subst (All (λ (p : List ℤ). KeepsSafeCoordinates c.args.steps.now (point_at p))) c.points.ensures.points c.in_ok-points.ensures.in_range, image_past_reach f points c.deref.result.now same c.if-not-are_in_reach.ensures.past)

pub planes_of-requires-clause-faces_are : goal.planes_of-requires-clause-faces_are
planes_of-requires-clause-faces_are c =
    let f = map_of c.args.steps.now in
    let same : c.deref-2.result.now ≡ (moved_mesh f c.args.shape.now).points = c.deref-2.ensures.value ∙ c.in_ok-points.ensures.images ∙ ap (λ (ps : List (List ℤ)). (moved_mesh f (record { points = ps; faces = c.args.shape.now.faces })).points) c.points.ensures.points in
    let placed : IsPlaced f c.args.shape.now c.deref-2.result.now c.faces.result.now = record {
      shape = c.points.ensures.shape;
      regular = subst (λ (ps : List (List ℤ)). 0 < length ps → determinant_of f ≡ pos 0 → ⊥) c.points.ensures.points c.in_ok-points.ensures.regular;
      points_are = same;
      faces_are = c.faces.ensures;
    } in
    placed_faces f c.args.shape.now c.deref-2.result.now c.faces.result.now placed

pub returns-clause-inside : goal.returns-clause-inside
returns-clause-inside c =
    let f = map_of c.args.steps.now in
    let same : c.deref-2.result.now ≡ (moved_mesh f c.args.shape.now).points = c.deref-2.ensures.value ∙ c.in_ok-points.ensures.images ∙ ap (λ (ps : List (List ℤ)). (moved_mesh f (record { points = ps; faces = c.args.shape.now.faces })).points) c.points.ensures.points in
    let placed : IsPlaced f c.args.shape.now c.deref-2.result.now c.faces.result.now = record {
      shape = c.points.ensures.shape;
      regular = subst (λ (ps : List (List ℤ)). 0 < length ps → determinant_of f ≡ pos 0 → ⊥) c.points.ensures.points c.in_ok-points.ensures.regular;
      points_are = same;
      faces_are = c.faces.ensures;
    } in
    inside-placed f c.args.shape.now c.deref-2.result.now c.faces.result.now c.in_ok-planes_of.field-0.items placed c.in_ok-planes_of.ensures

pub returns-clause-some : goal.returns-clause-some
returns-clause-some c =
    let f = map_of c.args.steps.now in
    let same : c.deref-2.result.now ≡ (moved_mesh f c.args.shape.now).points = c.deref-2.ensures.value ∙ c.in_ok-points.ensures.images ∙ ap (λ (ps : List (List ℤ)). (moved_mesh f (record { points = ps; faces = c.args.shape.now.faces })).points) c.points.ensures.points in
    let placed : IsPlaced f c.args.shape.now c.deref-2.result.now c.faces.result.now = record {
      shape = c.points.ensures.shape;
      regular = subst (λ (ps : List (List ℤ)). 0 < length ps → determinant_of f ≡ pos 0 → ⊥) c.points.ensures.points c.in_ok-points.ensures.regular;
      points_are = same;
      faces_are = c.faces.ensures;
    } in
    some_placed f c.args.shape.now c.deref-2.result.now c.faces.result.now c.in_ok-planes_of.field-0.items placed c.in_ok-planes_of.ensures

pub returns-clause-reach : goal.returns-clause-reach
returns-clause-reach c =
    let f = map_of c.args.steps.now in
    let same : c.deref-2.result.now ≡ (moved_mesh f c.args.shape.now).points = c.deref-2.ensures.value ∙ c.in_ok-points.ensures.images ∙ ap (λ (ps : List (List ℤ)). (moved_mesh f (record { points = ps; faces = c.args.shape.now.faces })).points) c.points.ensures.points in
    let placed : IsPlaced f c.args.shape.now c.deref-2.result.now c.faces.result.now = record {
      shape = c.points.ensures.shape;
      regular = subst (λ (ps : List (List ℤ)). 0 < length ps → determinant_of f ≡ pos 0 → ⊥) c.points.ensures.points c.in_ok-points.ensures.regular;
      points_are = same;
      faces_are = c.faces.ensures;
    } in
    let reach : All (λ (p : List ℤ). IsInReach (point_at p)) c.deref-2.result.now = subst (All (λ (p : List ℤ). IsInReach (point_at p))) (c.deref.ensures.value ∙ sym c.deref-2.ensures.value) c.if-not-are_in_reach.ensures.all in
    reach_placed f c.args.shape.now c.deref-2.result.now c.faces.result.now c.in_ok-planes_of.field-0.items placed c.in_ok-planes_of.ensures reach

pub returns-clause-in_reach : goal.returns-clause-in_reach
returns-clause-in_reach c =
    let f = map_of c.args.steps.now in
    let same : c.deref.result.now ≡ (moved_mesh f c.args.shape.now).points = c.deref.ensures.value ∙ c.in_ok-points.ensures.images ∙ ap (λ (ps : List (List ℤ)). (moved_mesh f (record { points = ps; faces = c.args.shape.now.faces })).points) c.points.ensures.points in
    images_in_reach f c.args.shape.now.points c.deref.result.now same c.if-not-are_in_reach.ensures.all

pub returns-clause-solid : goal.returns-clause-solid
returns-clause-solid c =
    let regular = subst (λ (ps : List (List ℤ)). 0 < length ps → determinant_of (map_of c.args.steps.now) ≡ pos 0 → ⊥) c.points.ensures.points c.in_ok-points.ensures.regular in
    faces_after (map_of c.args.steps.now) c.args.shape.now (regular (some_points c.args.shape.now c.points.ensures.shape)) c.points.ensures.shape.faces
