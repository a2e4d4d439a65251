-- A point strictly inside a face of a boundary is strictly inside the world box: its plane comes within reach, so it is no side
-- of the box.
use Rattle.std.proofs.Common.{◌≡◌, inl, inr, ℕ, ◌<◌, ◌≤◌, List, [], ◌∷◌, length, get_or, sym, ap, ◌∙◌, subst, arith, ℤ, pos, ◌-ℤ◌, ◌*ℤ◌, ◌<ℤ◌, ◌≤ℤ◌, neg_ℤ, refl}
use Rattle.std.proofs.Math.IntN.{*ℤ-zero}
use Rattle.plane_predicate.specs.declared.unit.Unit.{Unit as LengthUnit}
use Rattle.plane_predicate.specs.Space.{Coefficients, Coordinates, value, opposite_of, IsPlane, IsInReach, IsInWorld, IsInClosedWorld, ComesInReach}
use Rattle.plane_predicate.specs.Units.{grid_steps_per_unit}
use Rattle.plane_predicate.specs.InUnits.{in_steps}
use Rattle.plane_predicate.proofs.lemmas.IntegerRing.{sums}
use Rattle.plane_predicate.proofs.lemmas.Polynomials.{Poly, var, plus, times, minus, ring}
use Rattle.plane_predicate.proofs.lemmas.Vectors.{Place, form, place, of_plane, of_point, valueP, value-opposite}
use Rattle.plane_predicate.proofs.lemmas.Signs.{signs, least_cancel}
use Rattle.csg_tree.specs.HalfSpaceTrees.{Tree, nothing, leaf, tree_join, IsPlaneOf}
use Rattle.csg_tree.specs.FacePlanes.{IsFacePlane}
use Rattle.csg_tree.specs.ProperTrees.{IsLeafPlane, HasFullLeaves}
use Rattle.bsp_tree.specs.Cells.{world_box, AllBehind, NoneAhead}
use Rattle.bsp_tree.proofs.lemmas.Worlds.{open_world, closed_world, reach_in_box}
use Rattle.closed_surface.specs.Ways.{Direction, displacement, slope}
use Rattle.closed_surface.specs.Near.{near_point}
use Rattle.closed_surface.proofs.lemmas.Near.{near_on}
use Rattle.off_text.specs.Boundaries.{face_corner, grid_corner, FaceCovers}
use Rattle.watertight.proofs.General.{minus_zero, least_itself}
use Rattle.watertight.proofs.lemmas.Inner.{inner_not_ahead}
use Rattle.watertight.proofs.lemmas.Nearby.{several, moved, face_slopes, still_covers, points_too}

-- ---- a face plane comes within reach
leaf_reach : (f : Tree) (m : Coefficients) → HasFullLeaves f → IsPlaneOf m f → ComesInReach m
leaf_reach nothing m h k = absurd k
leaf_reach (leaf planes) m h k = let i : IsLeafPlane (get_or planes k.0 m) = h.1 k.0 m k.1 in subst ComesInReach k.2 i.reach
leaf_reach (tree_join op left right) m h (inl k) = leaf_reach left m h.0 k
leaf_reach (tree_join op left right) m h (inr k) = leaf_reach right m h.1 k

zero_back : (x y : ℤ) → y ≡ neg_ℤ x → y ≡ pos 0 → x ≡ pos 0
zero_back x y e h = omega (arith, sums, e, h)

pub plane_reach : (f : Tree) (n : Coefficients) → HasFullLeaves f → IsFacePlane n f → ComesInReach n
plane_reach f n full (inl k) = leaf_reach f n full k
plane_reach f n full (inr k) =
    let c = leaf_reach f (opposite_of n) full k in
    record { point = c.point; reach = c.reach; on = zero_back (value n c.point) (value (opposite_of n) c.point) (value-opposite n c.point) c.on }

-- ---- the direction from a corner to the point
abbrev stepped : Place → Place
stepped p = record { x = times (var 12) p.x; y = times (var 12) p.y; z = times (var 12) p.z; w = p.w }

slope_away : (unit : LengthUnit) (m : Coefficients) (c p : Coordinates) →
    slope m (several unit (displacement c p)) ≡ c.w *ℤ value m (in_steps unit p) -ℤ p.w *ℤ value m (in_steps unit c)
slope_away unit m c p =
    let M = form 0 in let C = place 4 in let P = place 8 in
    let way_to : Poly → Poly → Poly = λ x y. times (var 12) (minus (times C.w y) (times P.w x)) in
    ring (of_plane m (of_point c (of_point p (grid_steps_per_unit unit ∷ []))))
    (plus (plus (times M.a (way_to C.x P.x)) (times M.b (way_to C.y P.y))) (times M.c (way_to C.z P.z)))
    (minus (times C.w (valueP M (stepped P))) (times P.w (valueP M (stepped C)))) refl

-- a number that a point further away shows to be 0
back_to_zero : (v c x w y : ℤ) → v ≡ c *ℤ x -ℤ w *ℤ y → x ≡ pos 0 → v ≤ℤ pos 0 → pos 0 <ℤ w → y ≤ℤ pos 0 → y ≡ pos 0
back_to_zero v c x w y e z most above h =
    let k = least_cancel w y above (omega (arith, sums, e, most, ap (λ (t : ℤ). c *ℤ t) z ∙ *ℤ-zero c)) in omega (arith, sums, h, k)

above_and_most : (x : ℤ) → pos 0 <ℤ x → x ≤ℤ pos 0 → ⊥
above_and_most x h k = omega (arith, sums, h, k)

below_and_zero : (x : ℤ) → x <ℤ pos 0 → x ≡ pos 0 → ⊥
below_and_zero x h k = omega (arith, sums, h, k)

module _ (unit : LengthUnit) (vertices : List Coordinates) (face : List ℕ) (three : 3 ≤ length face) (n : Coefficients) (plane : IsPlane n) (p : Coordinates) (weight : pos 0 <ℤ p.w)
    (h : FaceCovers unit vertices n p face) where
  abbrev spot : ℕ → Coordinates
  spot i = grid_corner unit vertices face i

  abbrev here : Coordinates
  here = in_steps unit p

  -- a plane through the point that has no corner ahead goes through all corners
  corner_on : (m : Coefficients) → ((i : ℕ) → i < length face → value m (spot i) ≤ℤ pos 0) → value m here ≡ pos 0 → (j : ℕ) → j < length face → value m (spot j) ≡ pos 0
  corner_on m most zero j l =
      let v = displacement (face_corner vertices face j) p in
      let number = face_slopes unit vertices n face (several unit v) in
      let flat = slope_away unit n (face_corner vertices face j) p ∙ minus_zero (face_corner vertices face j).w (value n here) p.w (value n (spot j)) h.on (h.faces.on j l) in
      let r = near_point number p v in
      let covered = still_covers unit vertices n face p v number flat (least_itself number) h in
      back_to_zero (value m (in_steps unit r)) (face_corner vertices face j).w (value m here) p.w (value m (spot j))
      (ap (value m) (moved unit number p v) ∙ near_on m number here (several unit v) zero ∙ slope_away unit m (face_corner vertices face j) p)
      zero (inner_not_ahead unit vertices face three n plane r covered m most) weight (most j l)

  strictly_behind : (m : Coefficients) → ((i : ℕ) → i < length face → value m (spot i) ≤ℤ pos 0) → (r : Coordinates) → value n r ≡ pos 0 → value m r <ℤ pos 0 → value m here <ℤ pos 0
  strictly_behind m most r on below = elim (signs (value m here)) [
    | inl b ↦ b
    | inr (inl z) ↦ absurd (below_and_zero (value m r) below (points_too unit vertices face three n m plane h.faces (corner_on m most z) r on))
    | inr (inr a) ↦ absurd (above_and_most (value m here) a (inner_not_ahead unit vertices face three n plane p h m most))
  ]

  behind_cell : (cell : List Coefficients) → ((i : ℕ) → i < length face → NoneAhead cell (spot i)) → (r : Coordinates) → value n r ≡ pos 0 → AllBehind cell r → AllBehind cell here
  behind_cell [] most r on below = tt
  behind_cell (m ∷ cell) most r on below =
      (strictly_behind m (λ i l. (most i l).0) r on below.0, behind_cell cell (λ i l. (most i l).1) r on below.1)

  pub inner_in_world : ComesInReach n → ((i : ℕ) → i < length face → IsInClosedWorld (spot i)) → IsInWorld here
  inner_in_world c boxed = (open_world here).0 (record {
    weight = weight;
    below = behind_cell world_box (λ i l. ((closed_world (spot i)).1 (boxed i l)).below) c.point c.on (reach_in_box c.point c.reach).below;
  })
