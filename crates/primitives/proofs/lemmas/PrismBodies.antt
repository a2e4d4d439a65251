-- A convex polygon that is moved through a height above 0 is a shape.
use Rattle.std.proofs.Common.{◌≡◌, ℕ, ◌+◌, ◌<◌, false, List, [], length, get_or, map, sym, ap, ◌∙◌, subst, arith, ℤ, pos, negsuc, ◌-ℤ◌, ◌<ℤ◌, ◌≤ℤ◌, All, inl, inr}
use Rattle.std.specs.List.{range_with_len}
use Rattle.std.proofs.lemmas.List.Elements.{All-append, All-from_recursion, All-map, All-weaker}
use Rattle.std.proofs.lemmas.List.FromFn.{get_or-range_with_len, length-range_with_len}
use Rattle.plane_predicate.specs.Space.{Coefficients, Coordinates, point_at, value, AreCollinear}
use Rattle.plane_predicate.proofs.lemmas.IntegerRing.{sums}
use Rattle.int_transform.specs.Maps.{HasSafeCoordinates}
use Rattle.primitives.specs.Shapes.{mesh_point, value_at_point, IsFaceOfShape, IsShape}
use Rattle.primitives.proofs.lemmas.Moves.{whole}
use Rattle.primitives.specs.Sizes.{IsSafe}
use Rattle.primitives.specs.Polygons.{x_of, y_of, orientation, polygon_point, HasCorner, IsFlatShape, IsSafePoint}
use Rattle.primitives.specs.Prisms.{at_height, is_same_flat_point, prism_faces, prism_of, prism_points, sides_over}
use Rattle.primitives.proofs.lemmas.Bodies.{HasFar, IsOutside, outside_is_face}
use Rattle.primitives.proofs.lemmas.BoxBodies.{low_z, high_z, same_on, most_within, less_behind}
use Rattle.primitives.proofs.lemmas.EndFaces.{AreEnds}
use Rattle.primitives.proofs.lemmas.PrismLists.{after_in, all_faces, all_range, all_sides, each_corner, high_corner, high_face, length_faces, length_points, low_corner, low_face, side_face}
use Rattle.primitives.proofs.lemmas.SidePlanes.{Differ, differ_back, left_of_way, less_value, most_value, no_value, points_differ, side_directed, side_plane, side_triangle, side_value, turn_first, turn_second}
use Rattle.plane_predicate.specs.Indices.{index_after}

-- ---- the corners of the faces are there
below_length : (points : List (List ℤ)) (low high : ℤ) (i : ℕ) → i < length points + length points → i < length (prism_points points low high)
below_length points low high i lt = omega (arith, lt, length_points points low high)

side_there : (n m i j : ℕ) → i < n → j < n → m ≡ n + n → All (λ (k : ℕ). k < m) (side_face n i j)
side_there n m i j hi hj e = All-from_recursion (λ (k : ℕ). k < m) (side_face n i j) (omega arith, (omega arith, (omega arith, (omega arith, tt))))

low_there : (n m : ℕ) → m ≡ n + n → All (λ (k : ℕ). k < m) (range_with_len 0 n)
low_there n m e = all_range (λ (k : ℕ). k < m) 0 n (λ i lt. omega (arith, lt, e))

high_there : (n m : ℕ) → m ≡ n + n → All (λ (k : ℕ). k < m) (range_with_len n n)
high_there n m e = all_range (λ (k : ℕ). k < m) n n (λ i lt. omega (arith, lt, e))

prism_there : (points : List (List ℤ)) (low high : ℤ) → All (λ (f : List ℕ). All (λ (i : ℕ). i < length (prism_points points low high)) f) (prism_faces points)
prism_there points low high =
    let n = length points in let m = length (prism_points points low high) in let e = length_points points low high in
    all_faces (λ (f : List ℕ). All (λ (i : ℕ). i < m) f) points
    (all_sides (λ (f : List ℕ). All (λ (i : ℕ). i < m) f) points (λ i lt apart. side_there n m i (index_after n i) lt (after_in n i lt) e))
    (low_there n m e)
    (high_there n m e)

-- ---- values at the corners
abbrev corner_of : List (List ℤ) → ℤ → ℤ → ℕ → Coordinates
corner_of points low high i = mesh_point (prism_points points low high) i

low_value : (points : List (List ℤ)) (low high : ℤ) (m : Coefficients) (i : ℕ) → i < length points → value_at_point (prism_points points low high) m i ≡ value m (whole (x_of (polygon_point points i)) (y_of (polygon_point points i)) low)
low_value points low high m i lt = ap (value m) (low_corner points low high i lt)

high_value : (points : List (List ℤ)) (low high : ℤ) (m : Coefficients) (i : ℕ) → i < length points → value_at_point (prism_points points low high) m (length points + i) ≡ value m (whole (x_of (polygon_point points i)) (y_of (polygon_point points i)) high)
high_value points low high m i lt = ap (value m) (high_corner points low high i lt)

-- ---- a point far behind
low_item : (n i : ℕ) → i < n → get_or (range_with_len 0 n) i 0 ≡ i
low_item n i lt = let e : 0 + i ≡ i = omega arith in get_or-range_with_len 0 n i 0 lt ∙ e

high_item : (n i : ℕ) → i < n → get_or (range_with_len n n) i 0 ≡ n + i
high_item n i lt = get_or-range_with_len n n i 0 lt

far_low : (points : List (List ℤ)) (low high : ℤ) (m : Coefficients) (i : ℕ) → i < length points → value_at_point (prism_points points low high) m i <ℤ pos 0 → HasFar (prism_of points low high) m
far_low points low high m i lt h =
    let n = length points in
    record {
      at_face = length (sides_over points n) + 0;
      at = i;
      at_face_in = omega (arith, length_faces points);
      at_in = subst (λ (f : List ℕ). i < length f) (sym (low_face points)) (omega (arith, lt, length-range_with_len 0 n));
      behind = subst (λ (k : ℕ). value_at_point (prism_points points low high) m k <ℤ pos 0) (sym (ap (λ (f : List ℕ). get_or f i 0) (low_face points) ∙ low_item n i lt)) h;
    }

far_high : (points : List (List ℤ)) (low high : ℤ) (m : Coefficients) (i : ℕ) → i < length points → value_at_point (prism_points points low high) m (length points + i) <ℤ pos 0 → HasFar (prism_of points low high) m
far_high points low high m i lt h =
    let n = length points in
    record {
      at_face = length (sides_over points n) + 1;
      at = i;
      at_face_in = omega (arith, length_faces points);
      at_in = subst (λ (f : List ℕ). i < length f) (sym (high_face points)) (omega (arith, lt, length-range_with_len n n));
      behind = subst (λ (k : ℕ). value_at_point (prism_points points low high) m k <ℤ pos 0) (sym (ap (λ (f : List ℕ). get_or f i 0) (high_face points) ∙ high_item n i lt)) h;
    }

-- ---- triangles
same_line : (p q r s t u : Coordinates) → p ≡ s → q ≡ t → r ≡ u → AreCollinear p q r → AreCollinear s t u
same_line p q r s t u hp hq hr h =
    subst (λ (x : Coordinates). AreCollinear s t x) hr (subst (λ (x : Coordinates). AreCollinear s x r) hq (subst (λ (x : Coordinates). AreCollinear x q r) hp h))

-- three points at one height that are on one line are so in the plane
flat_line : (p q r : List ℤ) (z : ℤ) → AreCollinear (whole (x_of p) (y_of p) z) (whole (x_of q) (y_of q) z) (whole (x_of r) (y_of r) z) → orientation p q r ≡ pos 0
flat_line p q r z h = h.c

-- ---- the sides
-- the side over points i and j, which lie on the way from a to b
side_outside : (points : List (List ℤ)) (low high : ℤ) (i j : ℕ) (a b : List ℤ) → low <ℤ high → HasCorner points → i < length points → j < length points →
    Differ (polygon_point points i) (polygon_point points j) → Differ a b → orientation a b (polygon_point points i) ≡ pos 0 → orientation a b (polygon_point points j) ≡ pos 0 → All (λ (r : List ℤ). pos 0 ≤ℤ orientation a b r) points → IsOutside (prism_of points low high) (side_face (length points) i j)
side_outside points low high i j a b lt three hi hj apart way on_i on_j left =
    let n = length points in let m = side_plane a b in
    let far = left_of_way points a b three way left in
    record {
      there = side_there n (length (prism_points points low high)) i j hi hj (length_points points low high);
      triangle = record {
        first = 0;
        second = 1;
        third = 2;
        first_in = omega arith;
        second_in = omega arith;
        third_in = omega arith;
        apart = λ k. side_triangle (polygon_point points i) (polygon_point points j) low high lt apart (same_line _ _ _ _ _ _ (low_corner points low high i hi) (low_corner points low high j hj) (high_corner points low high j hj) k);
      };
      plane = m;
      directed = side_directed a b way;
      on = All-from_recursion (λ (k : ℕ). value_at_point (prism_points points low high) m k ≡ pos 0) (side_face n i j) (
        no_value _ _ (low_value points low high m i hi ∙ side_value a b (polygon_point points i) low) on_i,
        (
          no_value _ _ (low_value points low high m j hj ∙ side_value a b (polygon_point points j) low) on_j,
          (
            no_value _ _ (high_value points low high m j hj ∙ side_value a b (polygon_point points j) high) on_j,
            (
              no_value _ _ (high_value points low high m i hi ∙ side_value a b (polygon_point points i) high) on_i,
              tt,
            ),
          ),
        ),
      );
      within = λ k in_points. each_corner (λ (c : ℕ). value_at_point (prism_points points low high) m c ≤ℤ pos 0) n
          (λ c lt. most_value _ _ (low_value points low high m c lt ∙ side_value a b (polygon_point points c) low) (left c [] lt))
          (λ c lt. most_value _ _ (high_value points low high m c lt ∙ side_value a b (polygon_point points c) high) (left c [] lt))
          k (omega (arith, in_points, length_points points low high));
      far = far_low points low high m far.at far.at_in (less_value _ _ (low_value points low high m far.at far.at_in ∙ side_value a b (polygon_point points far.at) low) far.left);
    }

-- ---- the ends
low_outside : (points : List (List ℤ)) (low high : ℤ) → low <ℤ high → HasCorner points → IsOutside (prism_of points low high) (range_with_len 0 (length points))
low_outside points low high lt three =
    let n = length points in
    let m : Coefficients = record { a = pos 0; b = pos 0; c = negsuc 0; d = pos 0 -ℤ low } in
    let at_low : (i : ℕ) → i < n → value_at_point (prism_points points low high) m i ≡ low -ℤ low = λ i here. low_value points low high m i here ∙ low_z low (x_of (polygon_point points i)) (y_of (polygon_point points i)) low in
    let at_high : (i : ℕ) → i < n → value_at_point (prism_points points low high) m (n + i) ≡ low -ℤ high = λ i here. high_value points low high m i here ∙ low_z low (x_of (polygon_point points i)) (y_of (polygon_point points i)) high in
    let spot : (i : ℕ) → i < n → corner_of points low high (get_or (range_with_len 0 n) i 0) ≡ whole (x_of (polygon_point points i)) (y_of (polygon_point points i)) low = λ i here. ap (corner_of points low high) (low_item n i here) ∙ low_corner points low high i here in
    record {
      there = low_there n (length (prism_points points low high)) (length_points points low high);
      triangle = record {
        first = three.first;
        second = three.second;
        third = three.third;
        first_in = omega (arith, three.first_in, length-range_with_len 0 n);
        second_in = omega (arith, three.second_in, length-range_with_len 0 n);
        third_in = omega (arith, three.third_in, length-range_with_len 0 n);
        apart = λ k. three.apart (flat_line (polygon_point points three.first) (polygon_point points three.second) (polygon_point points three.third) low (same_line _ _ _ _ _ _ (spot three.first three.first_in) (spot three.second three.second_in) (spot three.third three.third_in) k));
      };
      plane = m;
      directed = omega arith;
      on = all_range (λ (k : ℕ). value_at_point (prism_points points low high) m k ≡ pos 0) 0 n (λ i here. (let e : i ≡ 0 + i = omega arith in subst (λ (k : ℕ). value_at_point (prism_points points low high) m k ≡ pos 0) e (same_on _ low (at_low i here))));
      within = λ k in_points. each_corner (λ (c : ℕ). value_at_point (prism_points points low high) m c ≤ℤ pos 0) n
          (λ c here. most_within _ low low (at_low c here) (omega (arith, sums)))
          (λ c here. most_within _ low high (at_high c here) (omega (arith, sums, lt)))
          k (omega (arith, in_points, length_points points low high));
      far = far_high points low high m three.first three.first_in (less_behind _ low high (at_high three.first three.first_in) lt);
    }

high_outside : (points : List (List ℤ)) (low high : ℤ) → low <ℤ high → HasCorner points → IsOutside (prism_of points low high) (range_with_len (length points) (length points))
high_outside points low high lt three =
    let n = length points in
    let m : Coefficients = record { a = pos 0; b = pos 0; c = pos 1; d = high } in
    let at_low : (i : ℕ) → i < n → value_at_point (prism_points points low high) m i ≡ low -ℤ high = λ i here. low_value points low high m i here ∙ high_z high (x_of (polygon_point points i)) (y_of (polygon_point points i)) low in
    let at_high : (i : ℕ) → i < n → value_at_point (prism_points points low high) m (n + i) ≡ high -ℤ high = λ i here. high_value points low high m i here ∙ high_z high (x_of (polygon_point points i)) (y_of (polygon_point points i)) high in
    let spot : (i : ℕ) → i < n → corner_of points low high (get_or (range_with_len n n) i 0) ≡ whole (x_of (polygon_point points i)) (y_of (polygon_point points i)) high = λ i here. ap (corner_of points low high) (high_item n i here) ∙ high_corner points low high i here in
    record {
      there = high_there n (length (prism_points points low high)) (length_points points low high);
      triangle = record {
        first = three.first;
        second = three.second;
        third = three.third;
        first_in = omega (arith, three.first_in, length-range_with_len n n);
        second_in = omega (arith, three.second_in, length-range_with_len n n);
        third_in = omega (arith, three.third_in, length-range_with_len n n);
        apart = λ k. three.apart (flat_line (polygon_point points three.first) (polygon_point points three.second) (polygon_point points three.third) high (same_line _ _ _ _ _ _ (spot three.first three.first_in) (spot three.second three.second_in) (spot three.third three.third_in) k));
      };
      plane = m;
      directed = omega arith;
      on = all_range (λ (k : ℕ). value_at_point (prism_points points low high) m k ≡ pos 0) n n (λ i here. same_on _ high (at_high i here));
      within = λ k in_points. each_corner (λ (c : ℕ). value_at_point (prism_points points low high) m c ≤ℤ pos 0) n
          (λ c here. most_within _ low high (at_low c here) (omega (arith, sums, lt)))
          (λ c here. most_within _ high high (at_high c here) (omega (arith, sums)))
          k (omega (arith, in_points, length_points points low high));
      far = far_low points low high m three.first three.first_in (less_behind _ low high (at_low three.first three.first_in) lt);
    }

-- ---- the whole
way_outside : (points : List (List ℤ)) (low high : ℤ) → low <ℤ high → IsFlatShape points → (i : ℕ) → i < length points → is_same_flat_point (polygon_point points i) (polygon_point points (index_after (length points) i)) ≡ false → IsOutside (prism_of points low high) (side_face (length points) i (index_after (length points) i))
way_outside points low high lt h i hi apart =
    let j = index_after (length points) i in let hj = after_in (length points) i hi in
    let p = polygon_point points i in let q = polygon_point points j in
    let d = points_differ p q apart in
    elim h.convex.goes [
      | inl left ↦ side_outside points low high i j p q lt h.convex.corner hi hj d d (turn_first p q) (turn_second p q) (left i hi)
      | inr right ↦ side_outside points low high i j q p lt h.convex.corner hi hj d (differ_back p q d) (turn_second q p) (turn_first q p) (right i hi)
    ]

prism_sides : (points : List (List ℤ)) (low high : ℤ) → low <ℤ high → IsFlatShape points → All (IsFaceOfShape (prism_of points low high)) (prism_faces points)
prism_sides points low high lt h =
    let mesh = prism_of points low high in let there = prism_there points low high in
    all_faces (IsFaceOfShape mesh) points
    (all_sides (IsFaceOfShape mesh) points (λ i hi apart. outside_is_face mesh there (side_face (length points) i (index_after (length points) i)) (way_outside points low high lt h i hi apart)))
    (outside_is_face mesh there (range_with_len 0 (length points)) (low_outside points low high lt h.convex.corner))
    (outside_is_face mesh there (range_with_len (length points) (length points)) (high_outside points low high lt h.convex.corner))

safe_corner : (z : ℤ) → IsSafe z → (p : List ℤ) → IsSafePoint p → HasSafeCoordinates (point_at (at_height z p))
safe_corner z h p s = record { x_size = s.x_safe.size; y_size = s.y_safe.size; z_size = h.size }

safe_end : (points : List (List ℤ)) (z : ℤ) → IsSafe z → All IsSafePoint points → All (λ (p : List ℤ). HasSafeCoordinates (point_at p)) (map (at_height z) points)
safe_end points z h s = All-map (λ (p : List ℤ). HasSafeCoordinates (point_at p)) (at_height z) points (All-weaker IsSafePoint (λ (p : List ℤ). HasSafeCoordinates (point_at (at_height z p))) (safe_corner z h) points s)

pub prism_is_shape : (points : List (List ℤ)) (low high : ℤ) → AreEnds low high → IsFlatShape points → IsShape (prism_of points low high)
prism_is_shape points low high ends h = record {
  some = omega (arith, length_faces points);
  faces = prism_sides points low high ends.apart h;
  safe = All-append (λ (p : List ℤ). HasSafeCoordinates (point_at p)) (map (at_height low) points) (map (at_height high) points) (safe_end points low ends.low_safe h.safe) (safe_end points high ends.high_safe h.safe);
}
