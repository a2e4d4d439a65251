use Rattle.std.proofs.Common.{rules, ◌≡◌, ◌∙◌, ◌+ℤ◌, ◌*ℤ◌, ap, ap₂, arith, w64, to_z-of_z, FitsSigned, ℤ}
use Rattle.plane_predicate.specs.Space.{point_at, plane_of_points}
use Rattle.plane_predicate.proofs.lemmas.Opposites.{same_plane}
use Rattle.plane_predicate.proofs.lemmas.Sizes.{fits_by_size}
use Rattle.primitives.proofs.facing.plane_through.Goals as goal

pub returns : goal.returns
returns c =
    let p = point_at c.args.p in let q = point_at c.args.q in let r = point_at c.args.r in
    let fx : FitsSigned w64 p.x = fits_by_size w64 p.x (omega (arith, c.requires.p_grid.x_size)) in
    let fy : FitsSigned w64 p.y = fits_by_size w64 p.y (omega (arith, c.requires.p_grid.y_size)) in
    let fz : FitsSigned w64 p.z = fits_by_size w64 p.z (omega (arith, c.requires.p_grid.z_size)) in
    let fa : FitsSigned w64 c.minor_between-a.result = search rules in
    let fb : FitsSigned w64 c.minor_between-b.result = search rules in
    let fc : FitsSigned w64 c.minor_between-c.result = search rules in
    let fd : FitsSigned w64 c.offset-d.result = search rules in
    let ea : c.minor_between-a.result ≡ (plane_of_points p q r).a = search rules in
    let eb : c.minor_between-b.result ≡ (plane_of_points p q r).b = search rules in
    let ec : c.minor_between-c.result ≡ (plane_of_points p q r).c = search rules in
    let ed = simp to_z-of_z at c.offset-d.ensures.value in
    let same = ap₂ ◌+ℤ◌ (ap₂ ◌+ℤ◌ (ap (λ (n : ℤ). n *ℤ p.x) ea) (ap (λ (n : ℤ). n *ℤ p.y) eb)) (ap (λ (n : ℤ). n *ℤ p.z) ec) in
    simp to_z-of_z (same_plane _ _ _ _ _ _ _ _ ea eb ec (ed ∙ same))
