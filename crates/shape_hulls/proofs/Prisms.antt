-- An extruded convex polygon is the hull of its points.
use Rattle.std.proofs.Common.{◌≡◌, ◌⊎◌, inl, inr, ℕ, suc, ◌+◌, ◌<◌, Bool, true, false, cond, eqb, List, [], ◌∷◌, ◌++◌, length, get_or, flat_map, refl, sym, ap, ◌∙◌, subst, arith, ℤ, pos, ◌-ℤ◌, ◌*ℤ◌, ◌+ℤ◌, ◌<ℤ◌, ◌≤ℤ◌, All}
use Rattle.std.specs.List.{range_with_len, AllByRecursion}
use Rattle.std.specs.Ordering.{int_eq}
use Rattle.std.proofs.lemmas.Bool.{eqb-true, eqb-false, true≢false}
use Rattle.std.specs.Bool.{Decides}
use Rattle.std.proofs.lemmas.Bool.Decides.{Decides-and, Decides-int_eq}
use Rattle.std.proofs.lemmas.List.{get_or-append-add, get_or_append_left, length-append}
use Rattle.std.proofs.lemmas.List.Elements.{All-from_recursion}
use Rattle.std.proofs.lemmas.List.FromFn.{get_or-range_with_len, length-range_with_len}
use Rattle.plane_predicate.specs.declared.unit.Unit.{Unit as LengthUnit}
use Rattle.plane_predicate.specs.Space.{Coefficients, Coordinates, minor, value}
use Rattle.plane_predicate.proofs.lemmas.IntegerRing.{sums, one_mul}
use Rattle.plane_predicate.proofs.lemmas.Signs.{pos_pos}
use Rattle.primitives.specs.Polygons.{x_of, y_of, orientation, polygon_point, GoesLeft, GoesRight, HasCorner, IsFlatShape}
use Rattle.primitives.specs.Prisms.{extrusion_of, is_same_flat_point, prism_faces, prism_of, prism_points, side_over, sides_over}
use Rattle.primitives.specs.Shapes.{mesh_point, value_at_point, IsBehindFace, IsPlaneOfFace, IsInside}
use Rattle.primitives.specs.Sizes.{high_end, low_end, AreSizes}
use Rattle.primitives.proofs.lemmas.EndFaces.{ends_of_side}
use Rattle.primitives.proofs.lemmas.Moves.{whole}
use Rattle.primitives.proofs.lemmas.PrismBodies.{prism_is_shape}
use Rattle.primitives.proofs.lemmas.PrismLists.{after_in, each_corner, high_corner, high_face, length_faces, length_points, low_corner, low_face, side_face}
use Rattle.primitives.proofs.lemmas.SidePlanes.{left_of_way, points_differ}
use Rattle.scad_hull.proofs.lemmas.Turns.{Bounds}
use Rattle.shape_hulls.specs.OwnHulls.{AreAllCorners, IsFaceCorner, IsHullOfItsPoints}
use Rattle.shape_hulls.proofs.Axes.{less_by, most_by}
use Rattle.shape_hulls.proofs.Frustums.{over_low, under_high}
use Rattle.shape_hulls.proofs.Insides.{hull_by, none_ahead}
use Rattle.shape_hulls.proofs.Turns.{all_same, beside, left_of, level, no_corner, same_seen, seen_below_high, seen_below_low, seen_most, turn_back, turn_seen, IsBetween, IsRound}
use Rattle.plane_predicate.specs.Indices.{index_after}

-- ---- lists
first_part : {A : Type 0} (P : A → Type 0) (xs ys : List A) → All P (xs ++ ys) → All P xs
first_part P xs ys h = λ k d lt. subst P (get_or_append_left xs ys d k lt) (h k d (omega (arith, lt, length-append xs ys)))

second_part : {A : Type 0} (P : A → Type 0) (xs ys : List A) → All P (xs ++ ys) → All P ys
second_part P xs ys h = λ k d lt. subst P (get_or-append-add xs ys k d) (h (length xs + k) d (omega (arith, lt, length-append xs ys)))

each_part : {X A : Type 0} (P : A → Type 0) (f : X → List A) (xs : List X) → All P (flat_map f xs) → AllByRecursion (λ (x : X). All P (f x)) xs
each_part P f [] h = tt
each_part P f (x ∷ xs) h = (first_part P (f x) (flat_map f xs) h, each_part P f xs (second_part P (f x) (flat_map f xs) h))

range_item : (a n i : ℕ) → i < n → get_or (range_with_len a n) i 0 ≡ a + i
range_item a n i lt = get_or-range_with_len a n i 0 lt

-- what holds of all faces of a prism holds of the side over a way between two different points
each_side : (P : List ℕ → Type 0) (points : List (List ℤ)) → All P (prism_faces points) → (i : ℕ) → i < length points → is_same_flat_point (polygon_point points i) (polygon_point points (index_after (length points) i)) ≡ false → P (side_face (length points) i (index_after (length points) i))
each_side P points h i lt apart =
    let n = length points in
    let sides : All P (sides_over points n) = first_part P (sides_over points n) (range_with_len 0 n ∷ range_with_len n n ∷ []) h in
    let over : All P (side_over points (get_or (range_with_len 0 n) i 0)) = All-from_recursion (λ (k : ℕ). All P (side_over points k)) (range_with_len 0 n) (each_part P (side_over points) (range_with_len 0 n) sides) i 0 (omega (arith, lt, length-range_with_len 0 n)) in
    let e : 0 + i ≡ i = omega arith in
    let here : All P (side_over points i) = subst (λ (k : ℕ). All P (side_over points k)) (range_item 0 n i lt ∙ e) over in
    let single : All P (side_face n i (index_after n i) ∷ []) = subst (λ (b : Bool). All P (cond b [] (side_face n i (index_after n i) ∷ []))) apart here in
    single 0 [] (omega arith)

-- and of both ends
low_end_of : (P : List ℕ → Type 0) (points : List (List ℤ)) → All P (prism_faces points) → P (range_with_len 0 (length points))
low_end_of P points h = subst P (low_face points) (h (length (sides_over points (length points)) + 0) [] (omega (arith, length_faces points)))

high_end_of : (P : List ℕ → Type 0) (points : List (List ℤ)) → All P (prism_faces points) → P (range_with_len (length points) (length points))
high_end_of P points h = subst P (high_face points) (h (length (sides_over points (length points)) + 1) [] (omega (arith, length_faces points)))

-- ---- corners
prism_corners : (points : List (List ℤ)) (low high : ℤ) → AreAllCorners (prism_of points low high)
prism_corners points low high i lt =
    let n = length points in
    each_corner (IsFaceCorner (prism_faces points)) n
    (λ j here. record {
      face = length (sides_over points n) + 0;
      at = j;
      face_in = omega (arith, length_faces points);
      at_in = subst (λ (f : List ℕ). j < length f) (sym (low_face points)) (omega (arith, here, length-range_with_len 0 n));
      is = (let e : 0 + j ≡ j = omega arith in ap (λ (f : List ℕ). get_or f j 0) (low_face points) ∙ range_item 0 n j here ∙ e);
    })
    (λ j here. record {
      face = length (sides_over points n) + 1;
      at = j;
      face_in = omega (arith, length_faces points);
      at_in = subst (λ (f : List ℕ). j < length f) (sym (high_face points)) (omega (arith, here, length-range_with_len n n));
      is = ap (λ (f : List ℕ). get_or f j 0) (high_face points) ∙ range_item n n j here;
    })
    i (omega (arith, lt, length_points points low high))

low_value : (points : List (List ℤ)) (low high : ℤ) (m : Coefficients) (i : ℕ) → i < length points → value_at_point (prism_points points low high) m i ≡ value m (whole (x_of (polygon_point points i)) (y_of (polygon_point points i)) low)
low_value points low high m i lt = ap (value m) (low_corner points low high i lt)

high_value : (points : List (List ℤ)) (low high : ℤ) (m : Coefficients) (i : ℕ) → i < length points → value_at_point (prism_points points low high) m (length points + i) ≡ value m (whole (x_of (polygon_point points i)) (y_of (polygon_point points i)) high)
high_value points low high m i lt = ap (value m) (high_corner points low high i lt)

-- ---- ends
-- an end's plane at three of its points
at_low : (points : List (List ℤ)) (low high : ℤ) (m : Coefficients) → All (λ (c : ℕ). value_at_point (prism_points points low high) m c ≡ pos 0) (range_with_len 0 (length points)) → (i : ℕ) → i < length points → value m (whole (x_of (polygon_point points i)) (y_of (polygon_point points i)) low) ≡ pos 0
at_low points low high m on i lt =
    let n = length points in
    let e : 0 + i ≡ i = omega arith in
    sym (low_value points low high m i lt) ∙ subst (λ (k : ℕ). value_at_point (prism_points points low high) m k ≡ pos 0) (range_item 0 n i lt ∙ e) (on i 0 (omega (arith, lt, length-range_with_len 0 n)))

at_high : (points : List (List ℤ)) (low high : ℤ) (m : Coefficients) → All (λ (c : ℕ). value_at_point (prism_points points low high) m c ≡ pos 0) (range_with_len (length points) (length points)) → (i : ℕ) → i < length points → value m (whole (x_of (polygon_point points i)) (y_of (polygon_point points i)) high) ≡ pos 0
at_high points low high m on i lt =
    let n = length points in
    sym (high_value points low high m i lt) ∙ subst (λ (k : ℕ). value_at_point (prism_points points low high) m k ≡ pos 0) (range_item n n i lt) (on i 0 (omega (arith, lt, length-range_with_len n n)))

low_most : (points : List (List ℤ)) (low high : ℤ) (m : Coefficients) → ((i : ℕ) → i < length (prism_points points low high) → value_at_point (prism_points points low high) m i ≤ℤ pos 0) → (i : ℕ) → i < length points → value m (whole (x_of (polygon_point points i)) (y_of (polygon_point points i)) low) ≤ℤ pos 0
low_most points low high m most i lt = most_by _ _ (low_value points low high m i lt) (most i (omega (arith, lt, length_points points low high)))

high_most : (points : List (List ℤ)) (low high : ℤ) (m : Coefficients) → ((i : ℕ) → i < length (prism_points points low high) → value_at_point (prism_points points low high) m i ≤ℤ pos 0) → (i : ℕ) → i < length points → value m (whole (x_of (polygon_point points i)) (y_of (polygon_point points i)) high) ≤ℤ pos 0
high_most points low high m most i lt = most_by _ _ (high_value points low high m i lt) (most (length points + i) (omega (arith, lt, length_points points low high)))

over : (points : List (List ℤ)) (low high : ℤ) → low <ℤ high → HasCorner points → (q : Coordinates) → IsInside (prism_of points low high) q → (low *ℤ q.w) <ℤ q.z
over points low high lt k q inside =
    let mesh = prism_of points low high in
    let b = low_end_of (IsBehindFace mesh q) points inside in
    let m = b.plane in
    let p = polygon_point points k.first in let r = polygon_point points k.second in let s = polygon_point points k.third in
    let h = level m.a m.b m.c m.d (x_of p) (y_of p) (x_of r) (y_of r) (x_of s) (y_of s) low (at_low points low high m b.is.on k.first k.first_in) (at_low points low high m b.is.on k.second k.second_in) (at_low points low high m b.is.on k.third k.third_in) k.apart in
    over_low m.a m.b m.c m.d low high (x_of p) (y_of p) q.x q.y q.z q.w lt h (high_most points low high m (none_ahead mesh (range_with_len 0 (length points)) m b.is (prism_corners points low high)) k.first k.first_in) b.behind

under : (points : List (List ℤ)) (low high : ℤ) → low <ℤ high → HasCorner points → (q : Coordinates) → IsInside (prism_of points low high) q → q.z <ℤ (high *ℤ q.w)
under points low high lt k q inside =
    let mesh = prism_of points low high in
    let b = high_end_of (IsBehindFace mesh q) points inside in
    let m = b.plane in
    let p = polygon_point points k.first in let r = polygon_point points k.second in let s = polygon_point points k.third in
    let h = level m.a m.b m.c m.d (x_of p) (y_of p) (x_of r) (y_of r) (x_of s) (y_of s) high (at_high points low high m b.is.on k.first k.first_in) (at_high points low high m b.is.on k.second k.second_in) (at_high points low high m b.is.on k.third k.third_in) k.apart in
    under_high m.a m.b m.c m.d high low (x_of p) (y_of p) q.x q.y q.z q.w lt h (low_most points low high m (none_ahead mesh (range_with_len (length points) (length points)) m b.is (prism_corners points low high)) k.first k.first_in) b.behind

-- ---- sides
-- a point behind the side over points i and j is strictly to the left of a way along it on whose right no point is
beside_way : (points : List (List ℤ)) (low high : ℤ) → low <ℤ high → HasCorner points → (q : Coordinates) (m : Coefficients) (face : List ℕ) → IsPlaneOfFace (prism_of points low high) face m → value m q <ℤ pos 0 → (p r : List ℤ) → value m (whole (x_of p) (y_of p) low) ≡ pos 0 → value m (whole (x_of r) (y_of r) low) ≡ pos 0 → value m (whole (x_of p) (y_of p) high) ≡ pos 0 →
    (is_same_flat_point p r ≡ false) → All (λ (s : List ℤ). pos 0 ≤ℤ orientation p r s) points → pos 0 <ℤ left_of (x_of p) (y_of p) (x_of r) (y_of r) q.x q.y q.w
beside_way points low high lt k q m face is below p r first second third apart left =
    let far = left_of_way points p r k (points_differ p r apart) left in
    let s = polygon_point points far.at in
    beside m.a m.b m.c m.d (x_of p) (y_of p) (x_of r) (y_of r) (x_of s) (y_of s) low high q.x q.y q.z q.w lt first second third
    (low_most points low high m (none_ahead (prism_of points low high) face m is (prism_corners points low high)) far.at far.at_in) below far.left

-- ---- the same point
same_point : (p r : List ℤ) → Decides (is_same_flat_point p r) ((x_of p ≡ x_of r) × (y_of p ≡ y_of r))
same_point p r = Decides-and (int_eq (x_of p) (x_of r)) (int_eq (y_of p) (y_of r)) (Decides-int_eq (x_of p) (x_of r)) (Decides-int_eq (y_of p) (y_of r))

apart_back : (p r : List ℤ) (b : Bool) → is_same_flat_point r p ≡ b → is_same_flat_point p r ≡ false → is_same_flat_point r p ≡ false
apart_back p r false e h = e
apart_back p r true e h = let same = (same_point r p).0 e in absurd (true≢false (sym ((same_point p r).1 (sym same.0, sym same.1)) ∙ h))

-- ---- the round
inner_case : (n i : ℕ) → suc i < n → (b : Bool) → eqb (suc i) n ≡ b → cond b 0 (suc i) ≡ suc i
inner_case n i lt true e = let same = eqb-true (suc i) n e in absurd (omega (arith, lt, same))
inner_case n i lt false e = refl

outer_case : (n i : ℕ) → suc i ≡ n → (b : Bool) → eqb (suc i) n ≡ b → cond b 0 (suc i) ≡ 0
outer_case n i h true e = refl
outer_case n i h false e = let apart = eqb-false (suc i) n e in absurd (apart h)

-- the coordinates of the points of a polygon, as seen from a point
abbrev xs_from : List (List ℤ) → Coordinates → ℕ → ℤ
xs_from points q i = q.w *ℤ x_of (polygon_point points i) -ℤ q.x

abbrev ys_from : List (List ℤ) → Coordinates → ℕ → ℤ
ys_from points q i = q.w *ℤ y_of (polygon_point points i) -ℤ q.y

abbrev Turn : ℤ → List (List ℤ) → Coordinates → ℕ → ℕ → Type 0
Turn k points q i j = pos 0 <ℤ (k *ℤ minor (xs_from points q i) (ys_from points q i) (xs_from points q j) (ys_from points q j))

left_turn : (p q u v x y w : ℤ) → pos 0 <ℤ w → pos 0 <ℤ left_of p q u v x y w → pos 0 <ℤ (pos 1 *ℤ minor (w *ℤ p -ℤ x) (w *ℤ q -ℤ y) (w *ℤ u -ℤ x) (w *ℤ v -ℤ y))
left_turn p q u v x y w above h = omega (arith, sums, one_mul (minor (w *ℤ p -ℤ x) (w *ℤ q -ℤ y) (w *ℤ u -ℤ x) (w *ℤ v -ℤ y)), turn_seen p q u v x y w, pos_pos w (left_of p q u v x y w) above h)

right_turn : (p q u v x y w : ℤ) → pos 0 <ℤ w → pos 0 <ℤ left_of u v p q x y w → pos 0 <ℤ ((pos 0 -ℤ pos 1) *ℤ minor (w *ℤ p -ℤ x) (w *ℤ q -ℤ y) (w *ℤ u -ℤ x) (w *ℤ v -ℤ y))
right_turn p q u v x y w above h = omega (arith, sums, turn_back (w *ℤ p -ℤ x) (w *ℤ q -ℤ y) (w *ℤ u -ℤ x) (w *ℤ v -ℤ y), turn_seen u v p q x y w, pos_pos w (left_of u v p q x y w) above h)

seen_same : (points : List (List ℤ)) (q : Coordinates) (i j : ℕ) → is_same_flat_point (polygon_point points i) (polygon_point points j) ≡ true → (xs_from points q i ≡ xs_from points q j) × (ys_from points q i ≡ ys_from points q j)
seen_same points q i j e = let same = (same_point (polygon_point points i) (polygon_point points j)).0 e in (ap (λ (t : ℤ). q.w *ℤ t -ℤ q.x) same.0, ap (λ (t : ℤ). q.w *ℤ t -ℤ q.y) same.1)

-- the same point, or a turn, from point i to the next
abbrev IsTurned : ℤ → List (List ℤ) → Coordinates → ℕ → Type 0
IsTurned k points q i = let j = index_after (length points) i in ((xs_from points q i ≡ xs_from points q j) × (ys_from points q i ≡ ys_from points q j)) ⊎ Turn k points q i j

turned_by : (k : ℤ) (points : List (List ℤ)) (q : Coordinates) (i : ℕ) → (is_same_flat_point (polygon_point points i) (polygon_point points (index_after (length points) i)) ≡ false → Turn k points q i (index_after (length points) i)) → (b : Bool) → is_same_flat_point (polygon_point points i) (polygon_point points (index_after (length points) i)) ≡ b → IsTurned k points q i
turned_by k points q i turn true e = inl (seen_same points q i (index_after (length points) i) e)
turned_by k points q i turn false e = inr (turn e)

round_by : (k : ℤ) (points : List (List ℤ)) (q : Coordinates) → ((i : ℕ) → i < length points → is_same_flat_point (polygon_point points i) (polygon_point points (index_after (length points) i)) ≡ false → Turn k points q i (index_after (length points) i)) → IsRound k (xs_from points q) (ys_from points q) (length points)
round_by k points q turn = record {
  next = index_after (length points);
  inner = λ i lt. inner_case (length points) i lt (eqb (suc i) (length points)) refl;
  outer = λ i h. outer_case (length points) i h (eqb (suc i) (length points)) refl;
  within = λ i lt. after_in (length points) i lt;
  turns = λ i lt. turned_by k points q i (turn i lt) (is_same_flat_point (polygon_point points i) (polygon_point points (index_after (length points) i))) refl;
}

left_round : (points : List (List ℤ)) (low high : ℤ) → low <ℤ high → HasCorner points → GoesLeft points → (q : Coordinates) → pos 0 <ℤ q.w → IsInside (prism_of points low high) q → IsRound (pos 1) (xs_from points q) (ys_from points q) (length points)
left_round points low high lt k goes q hw inside =
    round_by (pos 1) points q (λ i li apart.
    (let n = length points in let j = index_after n i in let lj = after_in n i li in
    let p = polygon_point points i in let r = polygon_point points j in
    let b = each_side (IsBehindFace (prism_of points low high) q) points inside i li apart in
    let m = b.plane in
    left_turn (x_of p) (y_of p) (x_of r) (y_of r) q.x q.y q.w hw
    (beside_way points low high lt k q m (side_face n i j) b.is b.behind p r
    (sym (low_value points low high m i li) ∙ b.is.on 0 0 (omega arith)) (sym (low_value points low high m j lj) ∙ b.is.on 1 0 (omega arith)) (sym (high_value points low high m i li) ∙ b.is.on 3 0 (omega arith)) apart (goes i li))))

right_round : (points : List (List ℤ)) (low high : ℤ) → low <ℤ high → HasCorner points → GoesRight points → (q : Coordinates) → pos 0 <ℤ q.w → IsInside (prism_of points low high) q → IsRound (pos 0 -ℤ pos 1) (xs_from points q) (ys_from points q) (length points)
right_round points low high lt k goes q hw inside =
    round_by (pos 0 -ℤ pos 1) points q (λ i li apart.
    (let n = length points in let j = index_after n i in let lj = after_in n i li in
    let p = polygon_point points i in let r = polygon_point points j in
    let b = each_side (IsBehindFace (prism_of points low high) q) points inside i li apart in
    let m = b.plane in
    right_turn (x_of p) (y_of p) (x_of r) (y_of r) q.x q.y q.w hw
    (beside_way points low high lt k q m (side_face n i j) b.is b.behind r p
    (sym (low_value points low high m j lj) ∙ b.is.on 1 0 (omega arith)) (sym (low_value points low high m i li) ∙ b.is.on 0 0 (omega arith)) (sym (high_value points low high m j lj) ∙ b.is.on 2 0 (omega arith)) (apart_back p r (is_same_flat_point r p) refl apart) (goes i li))))

-- ---- no plane keeps a point inside apart
-- a point of a polygon that a direction sees below 0
record IsSeenBelow (points : List (List ℤ)) (q : Coordinates) (m : Coefficients) : Type 0 where
  at : ℕ
  at_in : at < length points
  below : (m.a *ℤ xs_from points q at +ℤ m.b *ℤ ys_from points q at) <ℤ pos 0

some_below : (points : List (List ℤ)) (low high : ℤ) (q : Coordinates) (m : Coefficients) → IsBetween m.a m.b m.c m.d low high q.x q.y q.z q.w → ((i : ℕ) → i < length (prism_points points low high) → value_at_point (prism_points points low high) m i ≤ℤ pos 0) → (i : ℕ) → i < length points + length points → value_at_point (prism_points points low high) m i <ℤ pos 0 → IsSeenBelow points q m
some_below points low high q m z most i lt =
    each_corner (λ (c : ℕ). value_at_point (prism_points points low high) m c <ℤ pos 0 → IsSeenBelow points q m) (length points)
    (λ j here below. (let p = polygon_point points j in record {
      at = j;
      at_in = here;
      below = seen_below_low m.a m.b m.c m.d low high (x_of p) (y_of p) q.x q.y q.z q.w z (less_by _ _ (low_value points low high m j here) below) (high_most points low high m most j here);
    }))
    (λ j here below. (let p = polygon_point points j in record {
      at = j;
      at_in = here;
      below = seen_below_high m.a m.b m.c m.d low high (x_of p) (y_of p) q.x q.y q.z q.w z (low_most points low high m most j here) (less_by _ _ (high_value points low high m j here) below);
    }))
    i lt

-- seen in one direction, all points would be one
no_round : (k : ℤ) (points : List (List ℤ)) → HasCorner points → (q : Coordinates) → pos 0 <ℤ q.w → (m : Coefficients) → IsRound k (xs_from points q) (ys_from points q) (length points) → ((i : ℕ) → i < length points → (m.a *ℤ xs_from points q i +ℤ m.b *ℤ ys_from points q i) ≤ℤ pos 0) → IsSeenBelow points q m → ⊥
no_round k points c q hw m r most s =
    let same = λ (j : ℕ) (lt : j < length points). all_same k m.a m.b (xs_from points q) (ys_from points q) (length points) r most s.at s.at_in s.below j lt in
    let first = same c.first c.first_in in let second = same c.second c.second_in in
    let p = polygon_point points c.first in let t = polygon_point points c.second in let u = polygon_point points c.third in
    c.apart (no_corner (x_of t -ℤ x_of p) (y_of t -ℤ y_of p) (x_of u -ℤ x_of p) (y_of u -ℤ y_of p)
    (same_seen q.w (x_of p) (x_of t) q.x hw (sym first.0 ∙ second.0))
    (same_seen q.w (y_of p) (y_of t) q.y hw (sym first.1 ∙ second.1)))

prism_apart : (points : List (List ℤ)) (low high : ℤ) → low <ℤ high → IsFlatShape points → (q : Coordinates) → pos 0 <ℤ q.w → IsInside (prism_of points low high) q → (m : Coefficients) → Bounds (mesh_point (prism_points points low high)) (length (prism_points points low high)) q m → ⊥
prism_apart points low high lt h q hw inside m b =
    let c = h.convex.corner in
    let z : IsBetween m.a m.b m.c m.d low high q.x q.y q.z q.w = record { apart = lt; low = over points low high lt c q inside; high = under points low high lt c q inside; at = b.at } in
    let most = λ (i : ℕ) (li : i < length points). (let p = polygon_point points i in seen_most m.a m.b m.c m.d low high (x_of p) (y_of p) q.x q.y q.z q.w z (low_most points low high m b.most i li) (high_most points low high m b.most i li)) in
    let s = some_below points low high q m z b.most b.far (omega (arith, b.far_in, length_points points low high)) b.behind in
    elim h.convex.goes [
      | inl goes ↦ no_round (pos 1) points c q hw m (left_round points low high lt c goes q hw inside) most s
      | inr goes ↦ no_round (pos 0 -ℤ pos 1) points c q hw m (right_round points low high lt c goes q hw inside) most s
    ]

pub extrusion_is_hull : (unit : LengthUnit) (center : Bool) (points : List (List ℤ)) (height : ℤ) → IsFlatShape points → AreSizes unit center (height ∷ []) → IsHullOfItsPoints (extrusion_of unit center points height)
extrusion_is_hull unit center points height h s =
    let ends = ends_of_side unit center height (s.long 0 (pos 0) (omega arith)) (s.safe 0 (pos 0) (omega arith)) in
    let low = low_end unit center height in let high = high_end unit center height in
    hull_by (prism_of points low high) (prism_is_shape points low high ends h) (prism_corners points low high) (prism_apart points low high ends.apart h)
