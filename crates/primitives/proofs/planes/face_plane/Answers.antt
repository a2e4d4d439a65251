use Rattle.std.proofs.Common.{ℕ, List, All, Any, pos, ◌<ℤ◌, ◌≤ℤ◌, sym, subst}
use Rattle.plane_predicate.specs.Space.{Coefficients}
use Rattle.primitives.specs.Shapes.{Mesh, value_at_point, IsPlaneOfFace}
use Rattle.primitives.proofs.lemmas.ShapeBodies.{reach_on_grid}
use Rattle.primitives.proofs.lemmas.FacePlanes.{found, spanned_as_it_is, spanned_opposite}
use Rattle.primitives.proofs.planes.face_plane.Goals as goal

pub has_ahead-requires-clause-grid : goal.has_ahead-requires-clause-grid
has_ahead-requires-clause-grid c = reach_on_grid c.args.points.now c.requires.reach

pub has_ahead-requires-clause-there : goal.has_ahead-requires-clause-there
has_ahead-requires-clause-there c = λ k d lt. (c.requires.faces_are k d lt).there

pub returns-then-has_ahead : goal.returns-then-has_ahead
returns-then-has_ahead c =
    let mesh : Mesh = record { points = c.args.points.now; faces = c.args.faces.now } in
    let plane = c.spanned-plane.result in
    let some = subst (λ (m : Coefficients). Any (λ (f : List ℕ). Any (λ (i : ℕ). pos 0 <ℤ value_at_point mesh.points m i) f) mesh.faces) c.of_plane.ensures c.if-has_ahead.ensures.some in
    let f = found (λ (i : ℕ). pos 0 <ℤ value_at_point mesh.points plane i) mesh.faces some in
    subst (IsPlaneOfFace mesh c.args.face.now) (sym c.opposite.ensures.numbers)
    (spanned_opposite mesh c.args.face.now c.requires.face_is plane c.spanned-plane.ensures f.face f.at f.face_in f.at_in f.holds)

pub returns-else-has_ahead : goal.returns-else-has_ahead
returns-else-has_ahead c =
    let mesh : Mesh = record { points = c.args.points.now; faces = c.args.faces.now } in
    let plane = c.spanned-plane.result in
    spanned_as_it_is mesh c.args.face.now c.requires.face_is plane c.spanned-plane.ensures
    (subst (λ (m : Coefficients). All (λ (f : List ℕ). All (λ (i : ℕ). value_at_point mesh.points m i ≤ℤ pos 0) f) mesh.faces) c.of_plane.ensures c.if-has_ahead.ensures.none)
