use Rattle.std.proofs.Common.{refl, Bool, All, subst}
use Rattle.std.specs.Bool.{OnTrue, OnFalse}
use Rattle.primitives.specs.Shapes.{Mesh}
use Rattle.primitives.specs.Bounding.{IsFaceOfBody}
use Rattle.primitives.specs.Checks.{IsClosedMesh, IsConvexMesh}
use Rattle.primitives.proofs.lemmas.Solids.{convex_by}
use Rattle.primitives.proofs.polyhedron.check_surface.Goals as goal

pub returns-then-not-are_flat-clause-fault : goal.returns-then-not-are_flat-clause-fault
returns-then-not-are_flat-clause-fault c = record { number = 0; is = refl; fails = c.if-not-are_flat.ensures.past }

pub returns-then-not-branch-clause-fault : goal.returns-then-not-branch-clause-fault
returns-then-not-branch-clause-fault c = record {
  number = 1;
  is = refl;
  fails = (c.if-not-are_flat.ensures.all, subst (λ (b : Bool). OnFalse b (IsClosedMesh c.args.points.now c.args.faces.now → ⊥)) c.if-not-branch.true c.in_ok-are_closed.ensures.past);
}

pub returns-then-not-branch-2-clause-fault : goal.returns-then-not-branch-2-clause-fault
returns-then-not-branch-2-clause-fault c =
    let mesh : Mesh = record { points = c.args.points.now; faces = c.args.faces.now } in
    let closed = subst (λ (b : Bool). OnTrue b (IsClosedMesh c.args.points.now c.args.faces.now)) c.if-not-branch.false c.in_ok-are_closed.ensures.all in
    let not_convex = subst (λ (b : Bool). OnFalse b (IsConvexMesh mesh → ⊥)) c.if-not-branch-2.true c.in_ok-are_convex.ensures.past in
    record { number = 2; is = refl; fails = (c.if-not-are_flat.ensures.all, (closed, not_convex)) }

pub returns-clause-surface : goal.returns-clause-surface
returns-clause-surface c =
    let mesh : Mesh = record { points = c.args.points.now; faces = c.args.faces.now } in
    let closed = subst (λ (b : Bool). OnTrue b (IsClosedMesh c.args.points.now c.args.faces.now)) c.if-not-branch.false c.in_ok-are_closed.ensures.all in
    let bounded = subst (λ (b : Bool). OnTrue b (All (IsFaceOfBody mesh) mesh.faces)) c.if-not-branch-2.false c.in_ok-are_convex.ensures.all in
    record { flat = c.if-not-are_flat.ensures.all; closed = closed; convex = convex_by mesh c.requires.some c.if-not-are_flat.ensures.all bounded }
