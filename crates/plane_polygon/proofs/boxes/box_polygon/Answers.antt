use Rattle.std.proofs.Common.{rules, ◌≡◌, ◌≢◌, ◌↔◌, ℤ, pos, w64, to_z, of_z, to_z-of_z, FitsSigned, sym, ap, subst, ◌∙◌}
use Rattle.plane_predicate.specs.Space.{Coefficients, Coordinates, value, IsPlane, IsInClosedWorld}
use Rattle.plane_polygon.specs.Polygons.{Outline, Covers}
use Rattle.plane_polygon.specs.Boxes.{box_outline, box_over_x, box_over_y, box_over_z}
use Rattle.plane_polygon.proofs.lemmas.BoxPoints.{box_is_x, box_is_y, box_is_z, box_polygon_is, if_ok}
use Rattle.plane_polygon.proofs.boxes.box_polygon.Goals as goal

-- what the tests of machine numbers say
some_part : (x y : ℤ) → x ≡ y → (of_z w64 x ≡ 0 → ⊥) → y ≢ pos 0
some_part x y e h k = h (ap (of_z w64) (e ∙ k))

no_part : (x y : ℤ) → x ≡ y → FitsSigned w64 x → of_z w64 x ≡ 0 → y ≡ pos 0
no_part x y e f h = sym e ∙ sym (to_z-of_z f) ∙ ap (to_z w64) h

pub returns-then-plane-ne0-clause-outline : goal.returns-then-plane-ne0-clause-outline
returns-then-plane-ne0-clause-outline c =
    let m = c.args.plane.now in
    let ec = ap (λ (n : Coefficients). n.c) c.plane.view_is in
    let nc : m.c ≢ pos 0 = some_part c.plane.inside.c m.c ec c.if-plane-ne0.true in
    let is = box_is_z m nc in
    if_ok c.over_z.result (λ s. s ≡ box_over_z m) (λ s. s ≡ box_outline m) (λ s e. e ∙ sym is) c.over_z.ensures

pub returns-then-plane-ne0-clause-points : goal.returns-then-plane-ne0-clause-points
returns-then-plane-ne0-clause-points c =
    let m = c.args.plane.now in
    let ec = ap (λ (n : Coefficients). n.c) c.plane.view_is in
    let nc : m.c ≢ pos 0 = some_part c.plane.inside.c m.c ec c.if-plane-ne0.true in
    let is = box_is_z m nc in
    let h : IsPlane m = subst IsPlane c.plane.view_is c.plane.invariant in
    if_ok c.over_z.result (λ s. s ≡ box_over_z m) (λ s. (p : Coordinates) → Covers s p ↔ ((value m p ≡ pos 0) × IsInClosedWorld p))
    (λ s e. subst (λ (t : Outline). (p : Coordinates) → Covers t p ↔ ((value m p ≡ pos 0) × IsInClosedWorld p)) (sym (e ∙ sym is)) (box_polygon_is m h c.requires).points) c.over_z.ensures

pub returns-then-plane-ne0-2-clause-outline : goal.returns-then-plane-ne0-2-clause-outline
returns-then-plane-ne0-2-clause-outline c =
    let m = c.args.plane.now in
    let ec = ap (λ (n : Coefficients). n.c) c.plane.view_is in
    let fc : FitsSigned w64 c.plane.inside.c = search rules in
    let nc : m.c ≡ pos 0 = no_part c.plane.inside.c m.c ec fc c.if-plane-ne0.false in
    let eb = ap (λ (n : Coefficients). n.b) c.plane.view_is in
    let nb : m.b ≢ pos 0 = some_part c.plane.inside.b m.b eb c.if-plane-ne0-2.true in
    let is = box_is_y m nc nb in
    if_ok c.over_y.result (λ s. s ≡ box_over_y m) (λ s. s ≡ box_outline m) (λ s e. e ∙ sym is) c.over_y.ensures

pub returns-then-plane-ne0-2-clause-points : goal.returns-then-plane-ne0-2-clause-points
returns-then-plane-ne0-2-clause-points c =
    let m = c.args.plane.now in
    let ec = ap (λ (n : Coefficients). n.c) c.plane.view_is in
    let fc : FitsSigned w64 c.plane.inside.c = search rules in
    let nc : m.c ≡ pos 0 = no_part c.plane.inside.c m.c ec fc c.if-plane-ne0.false in
    let eb = ap (λ (n : Coefficients). n.b) c.plane.view_is in
    let nb : m.b ≢ pos 0 = some_part c.plane.inside.b m.b eb c.if-plane-ne0-2.true in
    let is = box_is_y m nc nb in
    let h : IsPlane m = subst IsPlane c.plane.view_is c.plane.invariant in
    if_ok c.over_y.result (λ s. s ≡ box_over_y m) (λ s. (p : Coordinates) → Covers s p ↔ ((value m p ≡ pos 0) × IsInClosedWorld p))
    (λ s e. subst (λ (t : Outline). (p : Coordinates) → Covers t p ↔ ((value m p ≡ pos 0) × IsInClosedWorld p)) (sym (e ∙ sym is)) (box_polygon_is m h c.requires).points) c.over_y.ensures

pub returns-else-plane-ne0-2-clause-points : goal.returns-else-plane-ne0-2-clause-points
returns-else-plane-ne0-2-clause-points c =
    let m = c.args.plane.now in
    let ec = ap (λ (n : Coefficients). n.c) c.plane.view_is in
    let fc : FitsSigned w64 c.plane.inside.c = search rules in
    let nc : m.c ≡ pos 0 = no_part c.plane.inside.c m.c ec fc c.if-plane-ne0.false in
    let eb = ap (λ (n : Coefficients). n.b) c.plane.view_is in
    let fb : FitsSigned w64 c.plane.inside.b = search rules in
    let nb : m.b ≡ pos 0 = no_part c.plane.inside.b m.b eb fb c.if-plane-ne0-2.false in
    let is = box_is_x m nc nb in
    let h : IsPlane m = subst IsPlane c.plane.view_is c.plane.invariant in
    if_ok c.over_x.result (λ s. s ≡ box_over_x m) (λ s. (p : Coordinates) → Covers s p ↔ ((value m p ≡ pos 0) × IsInClosedWorld p))
    (λ s e. subst (λ (t : Outline). (p : Coordinates) → Covers t p ↔ ((value m p ≡ pos 0) × IsInClosedWorld p)) (sym (e ∙ sym is)) (box_polygon_is m h c.requires).points) c.over_x.ensures
