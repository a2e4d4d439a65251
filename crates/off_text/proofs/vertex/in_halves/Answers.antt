use Rattle.std.proofs.Common.{rules, ◌≡◌, ◌&&◌, ◌*ℤ◌, true, false, pos, refl, sym, subst, ◌∙◌, FitsSigned, to_z-of_z}
use mir.Syntax.{w128}
use Rattle.plane_predicate.specs.Space.{Coordinates}
use Rattle.plane_predicate.proofs.lemmas.Sizes.{fits_by_size}
use Rattle.off_text.specs.Numbering.{is_even}
use Rattle.off_text.proofs.Halves.{even_parts, halved_vertex, doubled_vertex, twice_size}
use Rattle.off_text.proofs.vertex.in_halves.Goals as goal

pub half_of-requires-then-has_even_coordinates-2 : goal.half_of-requires-then-has_even_coordinates-2
half_of-requires-then-has_even_coordinates-2 c =
    let iz : FitsSigned w128 c.corner.inside.z = search rules in
    let p : Coordinates = record { x = c.corner.inside.x; y = c.corner.inside.y; z = c.corner.inside.z; w = c.corner.inside.w } in
    let all = sym c.has_even_coordinates.ensures ∙ c.if-has_even_coordinates.true in
    let parts = even_parts p (subst (λ (q : Coordinates). ((is_even q.x && is_even q.y) && is_even q.z) ≡ true) (sym c.corner.view_is) all) in
    simp to_z-of_z parts.2

pub returns-then-has_even_coordinates : goal.returns-then-has_even_coordinates
returns-then-has_even_coordinates c =
    let ix : FitsSigned w128 c.corner.inside.x = search rules in
    let iy : FitsSigned w128 c.corner.inside.y = search rules in
    let iz : FitsSigned w128 c.corner.inside.z = search rules in
    let iw : FitsSigned w128 c.corner.inside.w = search rules in
    let hx : FitsSigned w128 c.half_of.result = search rules in
    let hy : FitsSigned w128 c.half_of-then-has_even_coordinates.result = search rules in
    let hz : FitsSigned w128 c.half_of-then-has_even_coordinates-2.result = search rules in
    let p : Coordinates = record { x = c.corner.inside.x; y = c.corner.inside.y; z = c.corner.inside.z; w = c.corner.inside.w } in
    let v : Coordinates = record {
      x = c.half_of.result;
      y = c.half_of-then-has_even_coordinates.result;
      z = c.half_of-then-has_even_coordinates-2.result;
      w = c.corner.inside.w;
    } in
    let ex : p.x ≡ pos 2 *ℤ v.x = simp to_z-of_z at c.half_of.ensures in
    let ey : p.y ≡ pos 2 *ℤ v.y = simp to_z-of_z at c.half_of-then-has_even_coordinates.ensures in
    let ez : p.z ≡ pos 2 *ℤ v.z = simp to_z-of_z at c.half_of-then-has_even_coordinates-2.ensures in
    rw (← c.corner.view_is) (simp to_z-of_z (halved_vertex p v ex ey ez refl))

pub returns-else-has_even_coordinates : goal.returns-else-has_even_coordinates
returns-else-has_even_coordinates c =
    let ix : FitsSigned w128 c.corner.inside.x = search rules in
    let iy : FitsSigned w128 c.corner.inside.y = search rules in
    let iz : FitsSigned w128 c.corner.inside.z = search rules in
    let iw : FitsSigned w128 c.corner.inside.w = search rules in
    let twice : FitsSigned w128 (pos 2 *ℤ c.corner.inside.w) =
    fits_by_size w128 (pos 2 *ℤ c.corner.inside.w) (twice_size c.corner.inside.w c.corner.invariant.sizes.w_size) in
    let p : Coordinates = record { x = c.corner.inside.x; y = c.corner.inside.y; z = c.corner.inside.z; w = c.corner.inside.w } in
    let v : Coordinates = record { x = p.x; y = p.y; z = p.z; w = pos 2 *ℤ p.w } in
    let odd = sym c.has_even_coordinates.ensures ∙ c.if-has_even_coordinates.false in
    let odd_inside = subst (λ (q : Coordinates). ((is_even q.x && is_even q.y) && is_even q.z) ≡ false) (sym c.corner.view_is) odd in
    rw (← c.corner.view_is) (simp to_z-of_z (doubled_vertex p v odd_inside refl refl refl refl))
