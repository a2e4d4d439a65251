use Rattle.std.proofs.Common.{◌≤◌, ◌*ℤ◌, unsigned_abs, List, [], ◌∷◌, ap, subst, sym, arith, w64, to_z-of_z, FitsSigned, ℤ}
use Rattle.plane_predicate.specs.Space.{point_at}
use Rattle.plane_predicate.proofs.lemmas.Sizes.{fits_by_size, size_product}
use Rattle.primitives.proofs.Steps.{steps_size}
use Rattle.primitives.proofs.face_ranges.point_in_grid_steps.Goals as goal

pub returns : goal.returns
returns c =
    let p = point_at c.args.at in let per = c.per-per.result in
    let size : unsigned_abs per ≤ 2 = subst (λ (n : ℤ). unsigned_abs n ≤ 2) (sym c.per-per.ensures) (steps_size c.args.unit) in
    let fp : FitsSigned w64 per = fits_by_size w64 per (omega arith) in
    let fx : FitsSigned w64 p.x = fits_by_size w64 p.x (omega (arith, c.requires.x_size)) in
    let fy : FitsSigned w64 p.y = fits_by_size w64 p.y (omega (arith, c.requires.y_size)) in
    let fz : FitsSigned w64 p.z = fits_by_size w64 p.z (omega (arith, c.requires.z_size)) in
    let f1 : FitsSigned w64 (per *ℤ p.x) = fits_by_size w64 (per *ℤ p.x) (omega (arith, size_product per p.x 2 65535 size c.requires.x_size)) in
    let f2 : FitsSigned w64 (per *ℤ p.y) = fits_by_size w64 (per *ℤ p.y) (omega (arith, size_product per p.y 2 65535 size c.requires.y_size)) in
    let f3 : FitsSigned w64 (per *ℤ p.z) = fits_by_size w64 (per *ℤ p.z) (omega (arith, size_product per p.z 2 65535 size c.requires.z_size)) in
    let times : ℤ → List ℤ = λ n. (n *ℤ p.x) ∷ ((n *ℤ p.y) ∷ ((n *ℤ p.z) ∷ [])) in
    simp to_z-of_z (ap times c.per-per.ensures)
