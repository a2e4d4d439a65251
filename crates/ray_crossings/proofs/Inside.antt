-- Near each corner of a face of a boundary there are points where the formula holds: from the corner a little towards the
-- middle of the face, then a little along the face so that no other face plane is met, and then a little behind it.
use Rattle.std.proofs.Common.{◌≡◌, ◌≢◌, inl, inr, ℕ, suc, ◌+◌, ◌<◌, ◌≤◌, true, false, not, List, [], ◌∷◌, length, slice_index, slice_index_or, sym, ap, ◌∙◌, subst, arith, ◌-◌, ℤ, pos, ◌+ℤ◌, ◌-ℤ◌, ◌*ℤ◌, ◌<ℤ◌, neg_ℤ, unsigned_abs}
use Rattle.std.proofs.Math.IntN.{*ℤ-zero}
use Rattle.std.proofs.lemmas.Bool.{and_parts}
use Rattle.plane_predicate.specs.declared.unit.Unit.{Unit as LengthUnit}
use Rattle.plane_predicate.specs.Space.{Coefficients, Coordinates, value, inner_product, opposite_of, is_same, IsInWorld, IsPlane}
use Rattle.plane_predicate.specs.InUnits.{in_steps}
use Rattle.plane_predicate.proofs.lemmas.IntegerRing.{sums}
use Rattle.plane_predicate.proofs.lemmas.Identities.{combine, moved as point_behind, value_moved}
use Rattle.plane_predicate.proofs.lemmas.Opposites.{size_of_negative}
use Rattle.plane_predicate.proofs.lemmas.SamePlanes.{directed_above}
use Rattle.plane_predicate.proofs.lemmas.Signs.{signs, pos_pos}
use Rattle.csg_tree.specs.HalfSpaceTrees.{Tree, holds, sides_of, IsPlaneOf}
use Rattle.csg_tree.specs.FacePlanes.{IsFacePlane, IsOnOneFacePlane, sides_just_behind, sides_just_ahead, is_boundary_at}
use Rattle.csg_tree.specs.ProperTrees.{HasFullLeaves}
use Rattle.bsp_tree.specs.Cells.{AllBehind, IsInCell}
use Rattle.bsp_tree.proofs.lemmas.Openness.{more_below, more_above}
use Rattle.bsp_tree.proofs.lemmas.Opposites.{opposite_above}
use Rattle.bsp_tree.proofs.lemmas.SameNumbers.{same_equal, not_same}
use Rattle.closed_surface.specs.Ways.{Direction, slope}
use Rattle.closed_surface.specs.Near.{near_point}
use Rattle.closed_surface.proofs.lemmas.Near.{near_behind, near_weight}
use Rattle.closed_surface.proofs.lemmas.Numbers.{below, not_below, at_least, not_zero_below, not_zero_above}
use Rattle.closed_surface.proofs.lemmas.Each.{Each}
use Rattle.off_text.specs.Boundaries.{face_corner, grid_corner, FacesPlane, FaceCovers}
use Rattle.off_text.specs.Bounding.{IsBoundary}
use Rattle.off_text.proofs.lemmas.BesideFaces.{face_plane_is_plane}
use Rattle.watertight.proofs.lemmas.Boxed.{corner_boxed}
use Rattle.watertight.proofs.lemmas.Nearby.{several, moved, is_where, face_slopes, still_covers, way_out, own_slopes, step_flat, alone_near, planes_in, each_of}
use Rattle.ray_crossings.proofs.Volumes.{value_between}
use Rattle.ray_crossings.proofs.Sides.{holds_alike, between_world}
use Rattle.ray_crossings.proofs.Single.{pick}
use Rattle.ray_crossings.proofs.Choice.{sizes, each_size}
use Rattle.ray_crossings.proofs.Moving.{all_stay_behind}
use Rattle.ray_crossings.proofs.Means.{edge_turn, middle, middle_on, middle_left, mean_world, corner_least, both_zero, second_above, turn_combined}
use Rattle.ray_crossings.specs.Limits.{IsInsideSolid, IsLimitOfInside}
use Rattle.plane_predicate.specs.Indices.{index_after}

-- ---- numbers that are large enough
least_itself : (n : ℕ) → n ≤ n
least_itself n = omega arith

left_of_sum : (a b : ℕ) → a ≤ a + b
left_of_sum a b = omega arith

right_of_sum : (a b : ℕ) → b ≤ a + b
right_of_sum a b = omega arith

first_part : (a b c : ℕ) → a ≤ a + (b + c)
first_part a b c = omega arith

second_part : (a b c : ℕ) → b ≤ a + (b + c)
second_part a b c = omega arith

third_part : (a b c : ℕ) → c ≤ a + (b + c)
third_part a b c = omega arith

count_above : (k : ℕ) → pos 0 <ℤ pos (suc k)
count_above k = omega (arith, sums)

one_above : pos 0 <ℤ pos 1
one_above = omega (arith, sums)

-- ---- steps that stay behind planes
-- along a direction
pub along_behind : (number : ℕ) (q : Coordinates) (u : Direction) (ms : List Coefficients) → Each (λ m. unsigned_abs (slope m u) ≤ number) ms →
    AllBehind ms q → AllBehind ms (near_point number q u)
along_behind number q u [] e h = tt
along_behind number q u (m ∷ ms) e h = (near_behind m number q u e.0 h.0, along_behind number q u ms e.1 h.1)

-- against the direction of n
minus_is : (x y : ℤ) → x -ℤ y ≡ x +ℤ neg_ℤ y
minus_is x y = omega (arith, sums)

value_behind : (m n : Coefficients) (number : ℕ) (q : Coordinates) → value m (point_behind (pos (suc number)) q n) ≡ pos (suc number) *ℤ value m q +ℤ neg_ℤ (inner_product m n)
value_behind m n number q = value_moved m n (pos (suc number)) q ∙ minus_is (pos (suc number) *ℤ value m q) (inner_product m n)

behind_below : (m n : Coefficients) (number : ℕ) (q : Coordinates) → unsigned_abs (inner_product m n) ≤ number → value m q <ℤ pos 0 → value m (point_behind (pos (suc number)) q n) <ℤ pos 0
behind_below m n number q b h =
    subst (λ (x : ℤ). x <ℤ pos 0) (sym (value_behind m n number q))
    (more_below number (value m q) (neg_ℤ (inner_product m n)) h (subst (λ k. k ≤ number) (sym (size_of_negative (inner_product m n))) b))

behind_above : (m n : Coefficients) (number : ℕ) (q : Coordinates) → unsigned_abs (inner_product m n) ≤ number → pos 0 <ℤ value m q → pos 0 <ℤ value m (point_behind (pos (suc number)) q n)
behind_above m n number q b h =
    subst (λ (x : ℤ). pos 0 <ℤ x) (sym (value_behind m n number q))
    (more_above number (value m q) (neg_ℤ (inner_product m n)) h (subst (λ k. k ≤ number) (sym (size_of_negative (inner_product m n))) b))

all_behind : (n : Coefficients) (number : ℕ) (q : Coordinates) (ms : List Coefficients) → Each (λ m. unsigned_abs (inner_product m n) ≤ number) ms →
    AllBehind ms q → AllBehind ms (point_behind (pos (suc number)) q n)
all_behind n number q [] e h = tt
all_behind n number q (m ∷ ms) e h = (behind_below m n number q e.0 h.0, all_behind n number q ms e.1 h.1)

only_less : (k x y : ℤ) → x ≡ pos 0 → pos 0 <ℤ y → (k *ℤ x +ℤ neg_ℤ y) <ℤ pos 0
only_less k x y e h = omega (arith, sums, ap (λ (z : ℤ). k *ℤ z) e ∙ *ℤ-zero k)

own_below : (n : Coefficients) (number : ℕ) (q : Coordinates) → pos 0 <ℤ inner_product n n → value n q ≡ pos 0 → value n (point_behind (pos (suc number)) q n) <ℤ pos 0
own_below n number q d e = subst (λ (x : ℤ). x <ℤ pos 0) (sym (value_behind n n number q)) (only_less (pos (suc number)) (value n q) (inner_product n n) e d)

-- ---- a point just behind a point that is on one face plane alone
module _ (f : Tree) (n : Coefficients) (directed : pos 0 <ℤ inner_product n n) (q : Coordinates) (one : IsOnOneFacePlane f n q) (cell : List Coefficients) where
  abbrev enough : ℕ
  enough = sizes (λ m. inner_product m n) cell + sizes (λ m. inner_product m n) (planes_in f)

  abbrev pub just_inside : Coordinates
  just_inside = point_behind (pos (suc enough)) q n

  plane_enough : (m : Coefficients) → IsPlaneOf m f → unsigned_abs (inner_product m n) ≤ enough
  plane_enough m h =
      each_of (λ k. unsigned_abs (inner_product k n) ≤ enough) f
      (each_size (λ k. inner_product k n) (planes_in f) enough (right_of_sum (sizes (λ k. inner_product k n) cell) (sizes (λ k. inner_product k n) (planes_in f)))) m h

  other_side : (m : Coefficients) → IsPlaneOf m f → (m ≡ n → ⊥) → (m ≡ opposite_of n → ⊥) → sides_of q m ≡ sides_of just_inside m
  other_side m h x y = elim (signs (value m q)) [
    | inl b ↦ below (value m q) (pos 0) b ∙ sym (below (value m just_inside) (pos 0) (behind_below m n enough q (plane_enough m h) b))
    | inr (inl e) ↦ (elim (one.alone m h e) [ inl s ↦ absurd (x s) | inr s ↦ absurd (y s) ])
    | inr (inr a) ↦ not_below (value m q) (pos 0) (at_least (value m q) a)
        ∙ sym (not_below (value m just_inside) (pos 0) (at_least (value m just_inside) (behind_above m n enough q (plane_enough m h) a)))
  ]

  pub inside_sides : (m : Coefficients) → IsPlaneOf m f → sides_just_behind n q m ≡ sides_of just_inside m
  inside_sides m h =
      let own = own_below n enough q directed one.on in
      pick (is_same m n) (is_same m (opposite_of n)) true false (sides_of q m) (sides_of just_inside m)
      (λ x. sym (ap (sides_of just_inside) (same_equal m n x) ∙ below (value n just_inside) (pos 0) own))
      (λ y. sym (ap (sides_of just_inside) (same_equal m (opposite_of n) y)
      ∙ not_below (value (opposite_of n) just_inside) (pos 0) (at_least (value (opposite_of n) just_inside) (opposite_above n just_inside own))))
      (λ x y. other_side m h (not_same m n x) (not_same m (opposite_of n) y))

  pub inside_holds : holds f (sides_just_behind n q) ≡ true → holds f (sides_of just_inside) ≡ true
  inside_holds e = sym (holds_alike f (sides_just_behind n q) (sides_of just_inside) inside_sides) ∙ e

  pub inside_off : (m : Coefficients) → IsPlaneOf m f → value m just_inside ≢ pos 0
  inside_off m h = elim (signs (value m q)) [
    | inl b ↦ not_zero_below (value m just_inside) (behind_below m n enough q (plane_enough m h) b)
    | inr (inl e) ↦ (elim (one.alone m h e) [
      | inl s ↦ subst (λ (k : Coefficients). value k just_inside ≢ pos 0) (sym s) (not_zero_below (value n just_inside) (own_below n enough q directed one.on))
      | inr s ↦ subst (λ (k : Coefficients). value k just_inside ≢ pos 0) (sym s)
          (not_zero_above (value (opposite_of n) just_inside) (opposite_above n just_inside (own_below n enough q directed one.on)))
    ])
    | inr (inr a) ↦ not_zero_above (value m just_inside) (behind_above m n enough q (plane_enough m h) a)
  ]

  pub inside_in : IsInCell cell q → IsInCell cell just_inside
  inside_in h = record {
    weight = pos_pos (pos (suc enough)) q.w (count_above enough) h.weight;
    below = all_behind n enough q cell (each_size (λ m. inner_product m n) cell enough (left_of_sum (sizes (λ m. inner_product m n) cell) (sizes (λ m. inner_product m n) (planes_in f)))) h.below;
  }

-- ---- a corner of a face
module _ (unit : LengthUnit) (bytes : List ℕ) (f : Tree) (full : HasFullLeaves f) (text : IsBoundary unit bytes f)
    (boxed : Each (λ p. IsInWorld (in_steps unit p)) text.vertices) (j : ℕ) (l : j < length text.faces) (t : ℕ) (k : t < length (slice_index_or text.faces j [])) where
  abbrev face : List ℕ
  face = slice_index_or text.faces j []

  abbrev n : Coefficients
  n = (text.bounding j [] l).plane

  fp : IsFacePlane (text.bounding j [] l).plane f
  fp = (text.bounding j [] l).of_formula

  plane : IsPlane (text.bounding j [] l).plane
  plane = face_plane_is_plane f n full fp

  three : 3 ≤ length (slice_index_or text.faces j [])
  three = (text.read.loops j [] l).three

  facing : FacesPlane unit text.vertices (text.bounding j [] l).plane (slice_index_or text.faces j [])
  facing = (text.bounding j [] l).faces

  world : (i : ℕ) → IsInWorld (grid_corner unit text.vertices (slice_index_or text.faces j []) i)
  world i = corner_boxed unit text.vertices boxed (slice_index face i)

  abbrev here : Coordinates
  here = face_corner text.vertices face t

  abbrev mid : Coordinates
  mid = middle unit text.vertices n face three facing

  module _ (cell : List Coefficients) (inside : IsInCell cell (grid_corner unit text.vertices (slice_index_or text.faces j []) t)) where
    -- towards the middle
    abbrev often : ℕ
    often = sizes (λ m. value m (in_steps unit mid)) cell

    abbrev p : Coordinates
    p = combine (pos (suc often)) here (pos 1) mid

    p_world : IsInWorld (in_steps unit (combine (pos (suc (sizes (λ m. value m (in_steps unit mid)) cell))) here (pos 1) mid))
    p_world = between_world unit (pos (suc often)) (pos 1) (count_above often) one_above here mid (world t) (mean_world unit text.vertices n face three facing world (length face - 1))

    p_in : AllBehind cell (in_steps unit p)
    p_in = all_stay_behind unit often here mid cell (each_size (λ m. value m (in_steps unit mid)) cell often (least_itself often)) inside.below

    p_on : value n (in_steps unit p) ≡ pos 0
    p_on = both_zero (pos (suc often)) (pos 1) (value n (in_steps unit here)) (value n (in_steps unit mid)) (value n (in_steps unit p))
        (value_between unit n (pos (suc often)) here (pos 1) mid) (facing.on t k) (middle_on unit text.vertices n face three facing)

    p_covered : FaceCovers unit text.vertices n p face
    p_covered = record {
      faces = facing;
      on = p_on;
      left = λ i m. second_above (pos (suc often)) (pos 1) (edge_turn unit text.vertices n face three facing i here) (edge_turn unit text.vertices n face three facing i mid)
          (edge_turn unit text.vertices n face three facing i p) (count_above often) one_above
          (turn_combined unit n (face_corner text.vertices face i) (face_corner text.vertices face (index_after (length face) i)) (pos (suc often)) here (pos 1) mid)
          (corner_least unit text.vertices n face three facing i t m k) (middle_left unit text.vertices n face three facing i m);
    }

    -- along the face
    abbrev v : Direction
    v = way_out unit f full n plane fp p p_world p_on

    abbrev own : ℕ
    own = own_slopes unit f full n plane fp p p_world p_on

    abbrev its : ℕ
    its = face_slopes unit text.vertices n face (several unit v)

    abbrev cells : ℕ
    cells = sizes (λ m. slope m (several unit v)) cell

    abbrev number : ℕ
    number = own + (its + cells)

    abbrev r : Coordinates
    r = near_point number p v

    r_covered : FaceCovers unit text.vertices n r face
    r_covered = still_covers unit text.vertices n face p v number (step_flat unit f full n plane fp p p_world p_on) (second_part own its cells) p_covered

    r_one : IsOnOneFacePlane f n (in_steps unit r)
    r_one = alone_near unit f full n plane fp p p_world p_on number (first_part own its cells)

    r_in : IsInCell cell (in_steps unit r)
    r_in = record {
      weight = near_weight number p v p_world.weight;
      below = subst (AllBehind cell) (sym (moved unit number p v))
          (along_behind number (in_steps unit p) (several unit v) cell (each_size (λ m. slope m (several unit v)) cell number (third_part own its cells)) p_in);
    }

    r_holds : holds f (sides_just_behind n (in_steps unit r)) ≡ true
    r_holds =
        (and_parts (holds f (sides_just_behind n (in_steps unit r))) (not (holds f (sides_just_ahead n (in_steps unit r))))
        (is_where (is_boundary_at f n (in_steps unit r)) (FaceCovers unit text.vertices n r) text.faces (text.covered n r r_one) j l r_covered)).0

    directed : pos 0 <ℤ inner_product (text.bounding j [] l).plane (text.bounding j [] l).plane
    directed = directed_above n plane.directed

    in_there : IsInCell cell (just_inside f (text.bounding j [] l).plane directed (in_steps unit r) r_one cell)
    in_there = inside_in f n directed (in_steps unit r) r_one cell r_in

    pub near_corner : (x : Coordinates) × IsInCell cell x × IsInsideSolid f x
    near_corner = (
      just_inside f n directed (in_steps unit r) r_one cell,
      in_there,
      record {
        weight = in_there.weight;
        off = inside_off f n directed (in_steps unit r) r_one cell;
        solid = inside_holds f n directed (in_steps unit r) r_one cell r_holds;
      },
    )

  pub corner_limit : IsLimitOfInside f (grid_corner unit text.vertices (slice_index_or text.faces j []) t)
  corner_limit cell inside = near_corner cell inside
