use Rattle.std.proofs.Common.{◌≡◌, true, false, List, ℕ, sym, ◌∙◌, ap, subst, arith}
use Rattle.primitives.specs.Shapes.{Mesh, IsPlaneOfFace}
use Rattle.primitives.specs.Placing.{ArePlanesOf}
use Rattle.primitives.proofs.lemmas.Distinct.{among}
use Rattle.primitives.proofs.Placed.{plane_added, plane_kept}
use Rattle.primitives.proofs.planes.planes_of.Goals as goal
use Rattle.primitives.proofs.planes.planes_of.Goals.{then-not-holds+in_ok-push, else-not-holds}

pub loop-face-preserved : goal.loop-face-preserved
loop-face-preserved c =
    let mesh : Mesh = record { points = c.args.points.now; faces = c.args.faces.now } in
    let face = c.face-item.result in
    let plane = c.face_plane-plane.result in
    let is : IsPlaneOfFace mesh face plane = subst (λ (f : List ℕ). IsPlaneOfFace mesh f plane) c.items.ensures c.face_plane-plane.ensures in
    let found : c.holds.result ≡ among plane c.loop-face.planes.items = c.holds.ensures ∙ ap (among plane) c.deref.ensures.value in
    elim c.if-not-holds.branch [
      | then-not-holds+in_ok-push w ↦ (
          let e = ap (λ v. v.items) w.planes-is ∙ w.in_ok-push.ensures.items in
          let new : among plane c.loop-face.planes.items ≡ false = sym found ∙ w.if-not-holds.true in
          subst (ArePlanesOf mesh _) (sym e) (plane_added mesh c.args.faces.now c.loop-face.face-index face plane c.loop-face.planes.items (omega arith) c.face-item.is c.loop-face.invariant is new))
      | else-not-holds w ↦ (
          let e = ap (λ v. v.items) w.planes-is in
          let there : among plane c.loop-face.planes.items ≡ true = sym found ∙ w.if-not-holds.false in
          subst (ArePlanesOf mesh _) (sym e) (plane_kept mesh c.args.faces.now c.loop-face.face-index face plane c.loop-face.planes.items (omega arith) c.face-item.is c.loop-face.invariant is there))
    ]
