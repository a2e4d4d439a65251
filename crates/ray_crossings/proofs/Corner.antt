-- A worked limit: near the corner (0, 0, 0) of a cube there are points inside it, by a step along (1, 1, 1). Near (2, 0, 0) there
-- are none.
use Rattle.std.proofs.Common.{◌≡◌, ◌≢◌, ℕ, suc, ◌+◌, ◌≤◌, ◌&&◌, true, List, [], ◌∷◌, refl, sym, ap₂, subst, arith, pos, negsuc, ◌<ℤ◌, unsigned_abs}
use Rattle.std.specs.List.{list_all}
use Rattle.std.proofs.lemmas.Bool.{and_parts}
use Rattle.plane_predicate.specs.Space.{Coefficients, Coordinates, value, opposite_of, origin}
use Rattle.plane_predicate.proofs.lemmas.IntegerRing.{sums}
use Rattle.csg_tree.specs.HalfSpaceTrees.{holds, sides_of, IsPlaneOf}
use Rattle.bsp_tree.specs.Cells.{AllBehind, IsInCell}
use Rattle.bsp_tree.proofs.lemmas.Opposites.{behind_opposite_above}
use Rattle.closed_surface.specs.Ways.{Direction, slope}
use Rattle.closed_surface.specs.Near.{near_point}
use Rattle.closed_surface.proofs.lemmas.Near.{near_on, near_behind, near_weight}
use Rattle.closed_surface.proofs.lemmas.Numbers.{below, below_back, not_zero_below, not_both}
use Rattle.closed_surface.proofs.lemmas.Each.{Each}
use Rattle.watertight.proofs.lemmas.Nearby.{planes_in, each_of}
use Rattle.ray_crossings.specs.Limits.{IsInsideSolid, IsLimitOfInside}
use Rattle.ray_crossings.specs.Worked.{greatest_x, least_x, greatest_y, least_y, greatest_z, least_z, worked_cube, point_beside}
use Rattle.ray_crossings.proofs.Choice.{sizes, each_size}
use Rattle.ray_crossings.proofs.Inside.{along_behind}

-- the way into the cube
abbrev inwards : Direction
inwards = record { x = pos 1; y = pos 1; z = pos 1 }

-- behind some planes a leaf of them holds, and no one of them is met
behind_holds : (planes : List Coefficients) (p : Coordinates) → AllBehind planes p → list_all (sides_of p) planes ≡ true
behind_holds [] p h = refl
behind_holds (m ∷ planes) p h = ap₂ ◌&&◌ (below (value m p) (pos 0) h.0) (behind_holds planes p h.1)

behind_off : (planes : List Coefficients) (p : Coordinates) → AllBehind planes p → Each (λ m. value m p ≢ pos 0) planes
behind_off [] p h = tt
behind_off (m ∷ planes) p h = (not_zero_below (value m p) h.0, behind_off planes p h.1)

module _ (number : ℕ) (some : 1 ≤ number) where
  abbrev there : Coordinates
  there = near_point number origin inwards

  -- a side that the corner is on, and one that it is behind
  near_side : (m : Coefficients) → value m origin ≡ pos 0 → slope m inwards <ℤ pos 0 → value m there <ℤ pos 0
  near_side m on steep = subst (λ x. x <ℤ pos 0) (sym (near_on m number origin inwards on)) steep

  far_side : (m : Coefficients) → unsigned_abs (slope m inwards) ≤ 1 → value m origin <ℤ pos 0 → value m there <ℤ pos 0
  far_side m flat behind = near_behind m number origin inwards (omega (arith, flat, some)) behind

  all_behind : AllBehind (planes_in worked_cube) there
  all_behind = (
    far_side greatest_x (omega arith) (omega (arith, sums)),
    (
      near_side least_x refl (omega (arith, sums)),
      (
        far_side greatest_y (omega arith) (omega (arith, sums)),
        (
          near_side least_y refl (omega (arith, sums)),
          (far_side greatest_z (omega arith) (omega (arith, sums)), (near_side least_z refl (omega (arith, sums)), tt)),
        ),
      ),
    ),
  )

  near_is_inside : IsInsideSolid worked_cube there
  near_is_inside = record {
    weight = near_weight number origin inwards (omega (arith, sums));
    off = each_of (λ m. value m there ≢ pos 0) worked_cube (behind_off (planes_in worked_cube) there all_behind);
    solid = behind_holds (planes_in worked_cube) there all_behind;
  }

one_more : (n : ℕ) → n ≤ suc n
one_more n = omega arith

some_more : (n : ℕ) → 1 ≤ suc n
some_more n = omega arith

pub corner_is_limit : IsLimitOfInside worked_cube origin
corner_is_limit cell inside =
    let often = sizes (λ m. slope m inwards) cell in (
      near_point (suc often) origin inwards,
      record {
        weight = near_weight (suc often) origin inwards inside.weight;
        below = along_behind (suc often) origin inwards cell (each_size (λ m. slope m inwards) cell (suc often) (one_more often)) inside.below;
      },
      near_is_inside (suc often) (some_more often),
    )

-- the half space where x is above 1 has the point, and no point of the cube
pub beside_is_none : IsLimitOfInside worked_cube point_beside → ⊥
beside_is_none limit =
    let near = limit (opposite_of greatest_x ∷ []) (record { weight = omega (arith, sums); below = (omega (arith, sums), tt) }) in
    let p = near.0 in
    not_both (value greatest_x p) (behind_opposite_above greatest_x p near.1.below.0)
    (below_back (value greatest_x p) (pos 0) ((and_parts (sides_of p greatest_x) _ near.2.solid).0))
