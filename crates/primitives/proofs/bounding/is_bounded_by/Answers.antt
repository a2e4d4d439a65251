use Rattle.std.proofs.Common.{subst}
use Rattle.plane_predicate.specs.Space.{Coefficients}
use Rattle.primitives.specs.Shapes.{Mesh}
use Rattle.primitives.specs.Bounding.{IsOuterPlane}
use Rattle.primitives.proofs.lemmas.OuterPlanes.{bounded_spanned, bounded_opposite, one_plane, opposite_twice}
use Rattle.primitives.proofs.Searches.{on_true, on_false}
use Rattle.primitives.proofs.bounding.is_bounded_by.Goals as goal

pub bounds-requires-2-clause-opposite_is : goal.bounds-requires-2-clause-opposite_is
bounds-requires-2-clause-opposite_is c = opposite_twice c.args.plane.now c.opposite-turned.result c.opposite-turned.ensures

pub returns-then-bounds-clause-all : goal.returns-then-bounds-clause-all
returns-then-bounds-clause-all c = bounded_spanned _ c.args.face.now c.args.plane.now c.requires.spans c.requires.flat c.if-bounds.ensures.all

pub returns-clause-all : goal.returns-clause-all
returns-clause-all c =
    let mesh : Mesh = record { points = c.args.points.now; faces = c.args.faces.now } in
    on_true _ (λ b. bounded_opposite mesh c.args.face.now c.args.plane.now c.requires.spans c.requires.flat (subst (IsOuterPlane mesh c.args.face.now) c.opposite-turned.ensures b)) c.bounds-2.ensures.all

pub returns-clause-past : goal.returns-clause-past
returns-clause-past c =
    let mesh : Mesh = record { points = c.args.points.now; faces = c.args.faces.now } in
    on_false _ (λ no. one_plane mesh c.args.face.now c.args.plane.now c.requires.spans c.if-bounds.ensures.past (subst (λ (k : Coefficients). IsOuterPlane mesh c.args.face.now k → ⊥) c.opposite-turned.ensures no)) c.bounds-2.ensures.past
