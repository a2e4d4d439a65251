use Rattle.std.proofs.Common.{rules, ◌≡◌, ◌∙◌, ap, sym, subst, length, List, ℤ}
use Rattle.scad_hull.specs.Hulls.{faces_of_hull, numbers_between, AreOnOnePlane}
use Rattle.scad_hull.proofs.lemmas.Loops.{inside_by, numbered_by, shape_by}
use Rattle.scad_hull.proofs.hull.hull_shape.Goals as goal

pub are_on_one_plane-requires : goal.are_on_one_plane-requires
are_on_one_plane-requires c =
    let count : c.len.result ≡ length c.deref.result.now = search rules in
    numbered_by c.args.points.now c.deref.result.now c.deref-2.result.now (c.deref.ensures.value ∙ c.in_ok-found.ensures.all) c.if-not-are_in_range.ensures.all c.in_ok-found.ensures.few (c.deref-2.ensures.value ∙ c.in_ok-all.ensures ∙ ap (numbers_between 0) count)

pub hull_faces-requires : goal.hull_faces-requires
hull_faces-requires c =
    let count : c.len.result ≡ length c.deref-3.result.now = search rules in
    numbered_by c.args.points.now c.deref-3.result.now c.deref-4.result.now (c.deref-3.ensures.value ∙ c.in_ok-found.ensures.all) c.if-not-are_in_range.ensures.all c.in_ok-found.ensures.few (c.deref-4.ensures.value ∙ c.in_ok-all.ensures ∙ ap (numbers_between 0) count)

pub of_faces-requires : goal.of_faces-requires
of_faces-requires c =
    shape_by c.args.points.now c.deref-5.result.now c.deref-6.result.now (c.deref-5.ensures.value ∙ c.in_ok-found.ensures.all) c.if-not-are_in_range.ensures.all
    (subst (λ (points : List (List ℤ)). AreOnOnePlane points → ⊥) (c.deref.ensures.value ∙ sym c.deref-5.ensures.value) c.if-are_on_one_plane.ensures.solid)
    (c.deref-6.ensures.value ∙ c.in_ok-faces.ensures ∙ ap faces_of_hull (c.deref-3.ensures.value ∙ sym c.deref-5.ensures.value))

pub returns-clause-inside : goal.returns-clause-inside
returns-clause-inside c = inside_by c.args.points.now c.deref.result.now (c.deref.ensures.value ∙ c.in_ok-found.ensures.all) c.if-are_on_one_plane.ensures.solid
