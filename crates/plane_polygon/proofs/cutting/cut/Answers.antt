use Rattle.std.proofs.Common.{◌≡◌, ◌↔◌, ◌≤ℤ◌, pos, List, sym, subst}
use Rattle.plane_predicate.specs.Space.{Coefficients, Coordinates, value}
use Rattle.plane_polygon.specs.Polygons.{Outline, IsPolygon, Covers}
use Rattle.plane_polygon.specs.Parts.{class_of, part_behind, part_ahead}
use Rattle.plane_polygon.specs.declared.classes.Class.TheVariants.{Across}
use Rattle.plane_polygon.proofs.lemmas.Parts.{behind_polygon, ahead_polygon, behind_points, ahead_points}
use Rattle.plane_polygon.proofs.cutting.cut.Goals as goal

pub invariant_of-result : goal.invariant_of-result
invariant_of-result c =
    let s : Outline = record { plane = c.polygon.inside.plane; edges = c.polygon.inside.edges.items } in
    let m = c.args.plane.now in
    let across : class_of s m ≡ Across = rw (← c.polygon.view_is) at c.requires in
    let e : c.in_ok-parts.parts.behind.items ≡ (part_behind s m).edges = rw c.deref.ensures.value at c.in_ok-parts.ensures.behind in
    subst (λ (es : List Coefficients). IsPolygon (record { plane = s.plane; edges = es })) (sym e) (behind_polygon s m c.polygon.invariant across)

pub invariant_of-result-2 : goal.invariant_of-result-2
invariant_of-result-2 c =
    let s : Outline = record { plane = c.polygon.inside.plane; edges = c.polygon.inside.edges.items } in
    let m = c.args.plane.now in
    let across : class_of s m ≡ Across = rw (← c.polygon.view_is) at c.requires in
    let e : c.in_ok-parts.parts.ahead.items ≡ (part_ahead s m).edges = rw c.deref.ensures.value at c.in_ok-parts.ensures.ahead in
    subst (λ (es : List Coefficients). IsPolygon (record { plane = s.plane; edges = es })) (sym e) (ahead_polygon s m c.polygon.invariant across)

pub returns-clause-behind : goal.returns-clause-behind
returns-clause-behind c =
    let s : Outline = record { plane = c.polygon.inside.plane; edges = c.polygon.inside.edges.items } in
    let m = c.args.plane.now in
    let across : class_of s m ≡ Across = rw (← c.polygon.view_is) at c.requires in
    let e : c.in_ok-parts.parts.behind.items ≡ (part_behind s m).edges = rw c.deref.ensures.value at c.in_ok-parts.ensures.behind in
    rw (← c.polygon.view_is)
    (subst (λ (es : List Coefficients). (p : Coordinates) → Covers (record { plane = s.plane; edges = es }) p ↔ (Covers s p × (value m p ≤ℤ pos 0))) (sym e) (behind_points s m c.polygon.invariant across))

pub returns-clause-ahead : goal.returns-clause-ahead
returns-clause-ahead c =
    let s : Outline = record { plane = c.polygon.inside.plane; edges = c.polygon.inside.edges.items } in
    let m = c.args.plane.now in
    let across : class_of s m ≡ Across = rw (← c.polygon.view_is) at c.requires in
    let e : c.in_ok-parts.parts.ahead.items ≡ (part_ahead s m).edges = rw c.deref.ensures.value at c.in_ok-parts.ensures.ahead in
    rw (← c.polygon.view_is)
    (subst (λ (es : List Coefficients). (p : Coordinates) → Covers (record { plane = s.plane; edges = es }) p ↔ (Covers s p × (pos 0 ≤ℤ value m p))) (sym e) (ahead_points s m c.polygon.invariant across))
