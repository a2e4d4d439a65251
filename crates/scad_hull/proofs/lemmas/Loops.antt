-- What the tests and loops of the code say, as the definitions say it.
use Rattle.std.proofs.Common.{◌≡◌, Bool, true, false, not, ◌&&◌, ◌||◌, ℕ, zero, suc, ◌+◌, ◌-◌, ◌<◌, ◌≤◌, ℤ, pos, ◌<ℤ◌, ◌≤ℤ◌, int_eq, int_cmp, ◌↔◌, fold, Ordering, Less, Equal, Greater, List, [], ◌∷◌, ◌++◌, length, get_or, take, unsigned_abs, refl, sym, ap, ◌∙◌, subst, arith, All, Any, true≢false}
use Rattle.std.specs.Bool.{OnTrue, OnFalse}
use Rattle.std.specs.List.{AllByRecursion, list_all, list_any, range_with_len}
use Rattle.std.proofs.lemmas.Bool.{cond-true, cond-false, and_from, and_parts, and_left, and_right, false_from_ne_true, or_left, or_right, or_from, or_parts}
use Rattle.std.proofs.lemmas.Bool.Decides.{Decides-int_eq}
use Rattle.std.proofs.lemmas.List.{get_or_default, take_all, take_more}
use Rattle.std.proofs.lemmas.List.Elements.{All-from_recursion, recursion_from_All}
use Rattle.plane_predicate.specs.Space.{Coefficients, Coordinates, point_at, value, opposite_of, AreCollinear}
use Rattle.plane_predicate.proofs.lemmas.IntegerRing.{sums}
use Rattle.primitives.specs.Shapes.{mesh_point, value_at_point, HasTriangle, IsPointInRange, IsInside, IsShape, MakesShape}
use Rattle.primitives.specs.GridSizes.{IsWithinGridLimits}
use Rattle.primitives.proofs.lemmas.ShapeBodies.{range_on_grid, shape_of}
use Rattle.std.specs.Cmp.Lexicographic.{slice_cmp}
use Rattle.primitives.specs.Spanning.{HasNoDirection, IsTriangle}
use Rattle.primitives.specs.declared.spanning.Triangle.{Triangle}
use Rattle.primitives.proofs.lemmas.OnePlane.{nowhere}
use Rattle.scad_hull.specs.Hulls.{points_in_order, faces_of_hull, numbers_between, hull_of, point_put_among, is_directed, has_none_ahead, is_supporting, plane_of, shares_plane, AreOnOnePlane}
use Rattle.scad_hull.specs.Combinations.{IsInnerCombination}
use Rattle.scad_hull.specs.Refusals.{ArePointsInRange, HaveHull}
use Rattle.scad_hull.specs.Steps.{with_triple, AreNumberedPoints}
use Rattle.scad_hull.proofs.lemmas.Lines.{collinear_by, on_one_plane, plane, with_direction}
use Rattle.scad_hull.proofs.lemmas.Members.{all_from, all_weaker, IsWithin}
use Rattle.scad_hull.proofs.Solids.{inside_where_combined, makes_shape}
use Rattle.scad_hull.proofs.Supporting.{own, same_zeros}
use Rattle.scad_hull.proofs.Tests.{has_none, none_ahead, Holds}

-- ---- all numbers of the points
get_range : (a m k d : ℕ) → k < m → get_or (range_with_len a m) k d ≡ a + k
get_range a zero k d lt = absurd (omega (arith, lt))
get_range a (suc m) zero d lt = omega arith
get_range a (suc m) (suc k) d lt = get_range (a + 1) m k d (omega (arith, lt)) ∙ omega arith

length_range : (a m : ℕ) → length (range_with_len a m) ≡ m
length_range a zero = refl
length_range a (suc m) = ap suc (length_range (a + 1) m)

length_from : (n : ℕ) → length (numbers_between 0 n) ≡ n
length_from n = length_range 0 (n - 0) ∙ omega arith

pub get_from : (n k d : ℕ) → k < n → get_or (numbers_between 0 n) k d ≡ k
get_from n k d lt = get_range 0 (n - 0) k d (omega (arith, lt)) ∙ omega arith

pub all_below : (points : List (List ℤ)) (all : List ℕ) → AreNumberedPoints points all → All (λ (i : ℕ). i < length points) all
all_below points all h = subst (All (λ (i : ℕ). i < length points)) (sym h.numbers) (All-from_recursion (λ (i : ℕ). i < length points) (numbers_between 0 (length points)) (all_weaker (IsWithin 0 (length points)) (λ (i : ℕ). i < length points) (λ i w. w.below) (numbers_between 0 (length points)) (all_from 0 (length points))))

pub length_all : (points : List (List ℤ)) (all : List ℕ) → AreNumberedPoints points all → length all ≡ length points
length_all points all h = ap length h.numbers ∙ length_from (length points)

number_at : (points : List (List ℤ)) (all : List ℕ) → AreNumberedPoints points all → (k d : ℕ) → k < length points → get_or all k d ≡ k
number_at points all h k d lt = ap (λ (ks : List ℕ). get_or ks k d) h.numbers ∙ get_from (length points) k d lt

-- ---- a free side
above_most : (x : ℤ) → pos 0 <ℤ x → x ≤ℤ pos 0 → ⊥
above_most x h k = omega (arith, sums, h, k)

some_ahead : (points : List (List ℤ)) (all : List ℕ) (m : Coefficients) → AreNumberedPoints points all → Any (λ (i : ℕ). pos 0 <ℤ value_at_point points m i) all → has_none_ahead points m ≡ true → ⊥
some_ahead points all m h a e =
    let below : a.1 < length points = subst (λ (i : ℕ). i < length points) a.3 (all_below points all h a.0 a.1 a.2) in
    above_most (value_at_point points m a.1) a.4 (none_ahead points m e a.1 [] below)

all_behind : (points : List (List ℤ)) (all : List ℕ) (m : Coefficients) → AreNumberedPoints points all → All (λ (i : ℕ). value_at_point points m i ≤ℤ pos 0) all → has_none_ahead points m ≡ true
all_behind points all m h a =
    has_none points m (λ k d lt. subst (λ (p : List ℤ). value m (point_at p) ≤ℤ pos 0) (get_or_default points k [] d lt)
    (subst (λ (i : ℕ). value_at_point points m i ≤ℤ pos 0) (number_at points all h k 0 lt) (a k 0 (omega (arith, lt, length_all points all h)))))

pub side_is : (points : List (List ℤ)) (all : List ℕ) (m : Coefficients) → AreNumberedPoints points all → (b : Bool) → OnTrue b (Any (λ (i : ℕ). pos 0 <ℤ value_at_point points m i) all) → OnFalse b (All (λ (i : ℕ). value_at_point points m i ≤ℤ pos 0) all) → not b ≡ has_none_ahead points m
side_is points all m h true some none = sym (false_from_ne_true (has_none_ahead points m) (some_ahead points all m h some))
side_is points all m h false some none = sym (all_behind points all m h none)

-- ---- tests of planes
pub on_is : (x : ℤ) (b : Bool) → OnTrue b (x ≡ pos 0) → OnFalse b (x ≡ pos 0 → ⊥) → b ≡ int_eq x (pos 0)
on_is x true on off = sym ((Decides-int_eq x (pos 0)).1 on)
on_is x false on off = sym (false_from_ne_true (int_eq x (pos 0)) (λ e. off ((Decides-int_eq x (pos 0)).0 e)))

no_direction : (m : Coefficients) → HasNoDirection m → (int_eq m.a (pos 0) && (int_eq m.b (pos 0) && int_eq m.c (pos 0))) ≡ true
no_direction m h = and_from _ _ ((Decides-int_eq m.a (pos 0)).1 h.a) (and_from _ _ ((Decides-int_eq m.b (pos 0)).1 h.b) ((Decides-int_eq m.c (pos 0)).1 h.c))

not_by : (b : Bool) → (b ≡ true → ⊥) → not b ≡ true
not_by true h = absurd (h refl)
not_by false h = refl

parts_of : (m : Coefficients) → (int_eq m.a (pos 0) && (int_eq m.b (pos 0) && int_eq m.c (pos 0))) ≡ true → HasNoDirection m
parts_of m e =
    let one = and_parts (int_eq m.a (pos 0)) (int_eq m.b (pos 0) && int_eq m.c (pos 0)) e in
    let two = and_parts (int_eq m.b (pos 0)) (int_eq m.c (pos 0)) one.1 in
    record { a = (Decides-int_eq m.a (pos 0)).0 one.0; b = (Decides-int_eq m.b (pos 0)).0 two.0; c = (Decides-int_eq m.c (pos 0)).0 two.1 }

direction_by : (m : Coefficients) (b : Bool) → b ≡ (int_eq m.a (pos 0) && (int_eq m.b (pos 0) && int_eq m.c (pos 0))) → (HasNoDirection m → ⊥) → is_directed m ≡ true
direction_by m b e h = ap not (sym e) ∙ not_by b (λ t. h (parts_of m (sym e ∙ t)))

pub direction_is : (m : Coefficients) (b : Bool) → OnTrue b (HasNoDirection m → ⊥) → OnFalse b (HasNoDirection m) → b ≡ is_directed m
direction_is m true some none = sym (direction_by m _ refl some)
direction_is m false some none = sym (ap not (no_direction m none))

pub supports_not : (points : List (List ℤ)) (t : List ℕ) (m : Coefficients) (b : Bool) → m ≡ plane_of points t → b ≡ is_directed m → b ≡ false → false ≡ is_supporting points t
supports_not points t m b em eb e = sym (and_left (is_directed (plane_of points t)) (has_none_ahead points (plane_of points t) || has_none_ahead points (opposite_of (plane_of points t))) (ap is_directed (sym em) ∙ sym eb ∙ e))

pub supports_first : (points : List (List ℤ)) (t : List ℕ) (m : Coefficients) (b c : Bool) → m ≡ plane_of points t → b ≡ is_directed m → b ≡ true → c ≡ has_none_ahead points m → c ≡ true → true ≡ is_supporting points t
supports_first points t m b c em eb e ec f =
    let n = plane_of points t in
    sym (and_from (is_directed n) (has_none_ahead points n || has_none_ahead points (opposite_of n)) (ap is_directed (sym em) ∙ sym eb ∙ e) (or_left (has_none_ahead points n) (has_none_ahead points (opposite_of n)) (ap (has_none_ahead points) (sym em) ∙ sym ec ∙ f)))

and_true : (a b : Bool) → a ≡ true → (a && b) ≡ b
and_true true b e = refl
and_true false b e = absurd (true≢false (sym e))

or_false : (a b : Bool) → a ≡ false → (a || b) ≡ b
or_false true b e = absurd (true≢false e)
or_false false b e = refl

pub supports_second : (points : List (List ℤ)) (t : List ℕ) (m o : Coefficients) (b c r : Bool) → m ≡ plane_of points t → b ≡ is_directed m → b ≡ true → c ≡ has_none_ahead points m → c ≡ false → o ≡ opposite_of m → r ≡ has_none_ahead points o → r ≡ is_supporting points t
supports_second points t m o b c r em eb e ec f eo er =
    let n = plane_of points t in
    er ∙ ap (has_none_ahead points) (eo ∙ ap opposite_of em)
    ∙ sym (and_true (is_directed n) (has_none_ahead points n || has_none_ahead points (opposite_of n)) (ap is_directed (sym em) ∙ sym eb ∙ e)
    ∙ or_false (has_none_ahead points n) (has_none_ahead points (opposite_of n)) (ap (has_none_ahead points) (sym em) ∙ sym ec ∙ f))

-- ---- points on one plane
lines_by : (points : List (List ℤ)) (all : List ℕ) → AreNumberedPoints points all → (HasTriangle points all → ⊥) → (s k : ℕ) → s < length points → k < length points → AreCollinear (mesh_point points 0) (mesh_point points s) (mesh_point points k)
lines_by points all h none s k hs hk =
    let same = length_all points all h in
    let first = number_at points all h 0 0 (omega (arith, hs)) in
    let second = number_at points all h s 0 hs in
    let third = number_at points all h k 0 hk in
    collinear_by (mesh_point points 0) (mesh_point points s) (mesh_point points k) (λ apart.
    none (record {
      first = 0;
      second = s;
      third = k;
      first_in = omega (arith, same, hs);
      second_in = omega (arith, same, hs);
      third_in = omega (arith, same, hk);
      apart = λ c. apart (subst (λ (i : ℕ). AreCollinear (mesh_point points 0) (mesh_point points s) (mesh_point points i)) third (subst (λ (i : ℕ). AreCollinear (mesh_point points 0) (mesh_point points i) (mesh_point points (get_or all k 0))) second (subst (λ (i : ℕ). AreCollinear (mesh_point points i) (mesh_point points (get_or all s 0)) (mesh_point points (get_or all k 0))) first c)));
    }))

pub flat_by_lines : (points : List (List ℤ)) (all : List ℕ) → AreNumberedPoints points all → (HasTriangle points all → ⊥) → AreOnOnePlane points
flat_by_lines points all h none = on_one_plane points 0 (lines_by points all h none)

pub flat_by_plane : (points : List (List ℤ)) (all : List ℕ) (t : Triangle) → IsTriangle points all t → (m : Coefficients) → m ≡ plane points (get_or all t.first 0) (get_or all t.second 0) (get_or all t.third 0) → All (λ p. value m (point_at p) ≡ pos 0) points → AreOnOnePlane points
flat_by_plane points all t h m e on =
    let i = get_or all t.first 0 in let j = get_or all t.second 0 in let k = get_or all t.third 0 in
    record { plane = plane points i j k; directed = with_direction (mesh_point points i) (mesh_point points j) (mesh_point points k) h.apart; on = subst (λ (n : Coefficients). All (λ p. value n (point_at p) ≡ pos 0) points) e on }

no_size : (a b c : ℤ) → 0 < unsigned_abs a + unsigned_abs b + unsigned_abs c → a ≡ pos 0 → b ≡ pos 0 → c ≡ pos 0 → ⊥
no_size a b c h ea eb ec = omega (arith, h, ap unsigned_abs ea, ap unsigned_abs eb, ap unsigned_abs ec)

pub solid_by_plane : (points : List (List ℤ)) (all : List ℕ) → AreNumberedPoints points all → (t : Triangle) → IsTriangle points all t → (m : Coefficients) → m ≡ plane points (get_or all t.first 0) (get_or all t.second 0) (get_or all t.third 0) → (All (λ p. value m (point_at p) ≡ pos 0) points → ⊥) → AreOnOnePlane points → ⊥
solid_by_plane points all numbered t h m e off f =
    let i = get_or all t.first 0 in let j = get_or all t.second 0 in let k = get_or all t.third 0 in
    let below = all_below points all numbered in
    let k_holds : Holds points f.plane i j k = record { first = f.on i [] (below t.first 0 h.first_in); second = f.on j [] (below t.second 0 h.second_in); third = f.on k [] (below t.third 0 h.third_in) } in
    off (subst (λ (n : Coefficients). All (λ p. value n (point_at p) ≡ pos 0) points) (sym e) (λ s d lt.
    same_zeros points i j k h.apart (plane points i j k) f.plane (own points i j k) k_holds (λ nothing. (let z = nowhere f.plane nothing in no_size f.plane.a f.plane.b f.plane.c f.directed z.0 z.1 z.2)) (point_at (get_or points s d)) (f.on s d lt)))

-- ---- listed planes
any_push : {X : Type 0} (test : X → Bool) (xs : List X) (x : X) → list_any test xs ≡ false → test x ≡ false → list_any test (xs ++ x ∷ []) ≡ false
any_push test [] x h e = or_from (test x) false e refl
any_push test (y ∷ xs) x h e = let parts = or_parts (test y) (list_any test xs) h in or_from (test y) (list_any test (xs ++ x ∷ [])) parts.0 (any_push test xs x parts.1 e)

pub any_next : {X : Type 0} (test : X → Bool) (xs : List X) (i : ℕ) (d : X) → i < length xs → list_any test (take i xs) ≡ false → test (get_or xs i d) ≡ false → list_any test (take (i + 1) xs) ≡ false
any_next test xs i d lt h e = ap (list_any test) (take_more xs i d lt) ∙ any_push test (take i xs) (get_or xs i d) h e

pub any_done : {X : Type 0} (test : X → Bool) (xs : List X) (i : ℕ) → length xs ≤ i → list_any test (take i xs) ≡ false → list_any test xs ≡ false
any_done test xs i h e = ap (list_any test) (sym (take_all i xs h)) ∙ e

pub any_here : {X : Type 0} (test : X → Bool) (xs : List X) (i : ℕ) (d : X) → i < length xs → test (get_or xs i d) ≡ true → list_any test xs ≡ true
any_here test [] i d lt e = absurd (omega (arith, lt))
any_here test (x ∷ xs) zero d lt e = or_left (test x) (list_any test xs) e
any_here test (x ∷ xs) (suc i) d lt e = or_right (test x) (list_any test xs) (any_here test xs i d (omega (arith, lt)) e)

-- what a test says
pub on_false : {P Q : Type 0} (b : Bool) → (P → Q) → OnFalse b P → OnFalse b Q
on_false true f h = h
on_false false f h = f h

-- ---- three numbers
three_all : (test : ℕ → Bool) (t : List ℕ) → length t ≡ 3 → list_all test t ≡ (test (get_or t 0 0) && (test (get_or t 1 0) && (test (get_or t 2 0) && true)))
three_all test [] e = absurd (omega (arith, e))
three_all test (i ∷ []) e = absurd (omega (arith, e))
three_all test (i ∷ j ∷ []) e = absurd (omega (arith, e))
three_all test (i ∷ j ∷ k ∷ []) e = refl
three_all test (i ∷ j ∷ k ∷ l ∷ more) e = absurd (omega (arith, e))

last_true : (a : Bool) → (a && true) ≡ a
last_true true = refl
last_true false = refl

abbrev on_at : List (List ℤ) → Coefficients → ℕ → Bool
on_at points m i = int_eq (value_at_point points m i) (pos 0)

shares_is : (points : List (List ℤ)) (s t : List ℕ) (m : Coefficients) → m ≡ plane_of points s → length t ≡ 3 → shares_plane points s t ≡ (on_at points m (get_or t 0 0) && (on_at points m (get_or t 1 0) && (on_at points m (get_or t 2 0) && true)))
shares_is points s t m em three = three_all (on_at points (plane_of points s)) t three ∙ ap (λ n. on_at points n (get_or t 0 0) && (on_at points n (get_or t 1 0) && (on_at points n (get_or t 2 0) && true))) (sym em)

pub not_first : (points : List (List ℤ)) (s t : List ℕ) (m : Coefficients) (a : Bool) → m ≡ plane_of points s → length t ≡ 3 → a ≡ on_at points m (get_or t 0 0) → a ≡ false → false ≡ shares_plane points s t
not_first points s t m a em three ea e = sym (shares_is points s t m em three ∙ and_left (on_at points m (get_or t 0 0)) _ (sym ea ∙ e))

pub not_second : (points : List (List ℤ)) (s t : List ℕ) (m : Coefficients) (a b : Bool) → m ≡ plane_of points s → length t ≡ 3 → a ≡ on_at points m (get_or t 0 0) → a ≡ true → b ≡ on_at points m (get_or t 1 0) → b ≡ false → false ≡ shares_plane points s t
not_second points s t m a b em three ea e eb f = sym (shares_is points s t m em three ∙ and_true (on_at points m (get_or t 0 0)) _ (sym ea ∙ e) ∙ and_left (on_at points m (get_or t 1 0)) _ (sym eb ∙ f))

pub by_third : (points : List (List ℤ)) (s t : List ℕ) (m : Coefficients) (a b c : Bool) → m ≡ plane_of points s → length t ≡ 3 → a ≡ on_at points m (get_or t 0 0) → a ≡ true → b ≡ on_at points m (get_or t 1 0) → b ≡ true → c ≡ on_at points m (get_or t 2 0) → c ≡ shares_plane points s t
by_third points s t m a b c em three ea e eb f ec =
    ec ∙ sym (shares_is points s t m em three ∙ and_true (on_at points m (get_or t 0 0)) _ (sym ea ∙ e) ∙ and_true (on_at points m (get_or t 1 0)) _ (sym eb ∙ f) ∙ last_true (on_at points m (get_or t 2 0)))

-- ---- one more triple
pub pushed : (points : List (List ℤ)) (faces : List (List ℕ)) (t : List ℕ) (b c : Bool) → b ≡ is_supporting points t → b ≡ true → c ≡ list_any (λ s. shares_plane points s t) faces → c ≡ false → faces ++ t ∷ [] ≡ with_triple points faces t
pushed points faces t b c eb e ec f = sym (cond-true (is_supporting points t && not (list_any (λ s. shares_plane points s t) faces)) (faces ++ t ∷ []) faces (and_from (is_supporting points t) (not (list_any (λ s. shares_plane points s t) faces)) (sym eb ∙ e) (ap not (sym ec ∙ f))))

pub kept_supported : (points : List (List ℤ)) (faces : List (List ℕ)) (t : List ℕ) (c : Bool) → c ≡ list_any (λ s. shares_plane points s t) faces → c ≡ true → faces ≡ with_triple points faces t
kept_supported points faces t c ec f = sym (cond-false (is_supporting points t && not (list_any (λ s. shares_plane points s t) faces)) (faces ++ t ∷ []) faces (and_right (is_supporting points t) (not (list_any (λ s. shares_plane points s t) faces)) (ap not (sym ec ∙ f))))

pub kept_other : (points : List (List ℤ)) (faces : List (List ℕ)) (t : List ℕ) (b : Bool) → b ≡ is_supporting points t → b ≡ false → faces ≡ with_triple points faces t
kept_other points faces t b eb e = sym (cond-false (is_supporting points t && not (list_any (λ s. shares_plane points s t) faces)) (faces ++ t ∷ []) faces (and_left (is_supporting points t) (not (list_any (λ s. shares_plane points s t) faces)) (sym eb ∙ e)))

-- ---- the different points of some given ones
all_put_by : (P : List ℤ → Type 0) (o : Ordering) (p q : List ℤ) (points : List (List ℤ)) → P p → AllByRecursion P (q ∷ points) → AllByRecursion P (point_put_among p points) → AllByRecursion P (elim o [ Less ↦ q ∷ point_put_among p points | Equal ↦ q ∷ points | Greater ↦ p ∷ q ∷ points ])
all_put_by P Less p q points h k m = (k.0, m)
all_put_by P Equal p q points h k m = k
all_put_by P Greater p q points h k m = (h, k)

all_put : (P : List ℤ → Type 0) (p : List ℤ) (points : List (List ℤ)) → P p → AllByRecursion P points → AllByRecursion P (point_put_among p points)
all_put P p [] h k = (h, tt)
all_put P p (q ∷ points) h k = all_put_by P (slice_cmp int_cmp q p) p q points h k (all_put P p points h k.1)

all_different : (P : List ℤ → Type 0) (points given : List (List ℤ)) → AllByRecursion P points → AllByRecursion P given → AllByRecursion P (fold (λ ps p. point_put_among p ps) points given)
all_different P points [] h k = h
all_different P points (p ∷ given) h k = all_different P (point_put_among p points) given (all_put P p points k.0 h) k.1

pub range_different : (given : List (List ℤ)) → ArePointsInRange given → ArePointsInRange (points_in_order given)
range_different given h = All-from_recursion (λ p. IsPointInRange (point_at p)) (points_in_order given) (all_different (λ p. IsPointInRange (point_at p)) [] given tt (recursion_from_All (λ p. IsPointInRange (point_at p)) given h))

pub numbered_by : (given points : List (List ℤ)) (all : List ℕ) → points ≡ points_in_order given → ArePointsInRange given → length (points_in_order given) ≤ 128 → all ≡ numbers_between 0 (length points) → AreNumberedPoints points all
numbered_by given points all e range few numbers = record {
  grid = subst (λ ps. All (λ p. IsWithinGridLimits (point_at p)) ps) (sym e) (range_on_grid (points_in_order given) (range_different given range));
  few = subst (λ ps. length ps ≤ 128) (sym e) few;
  numbers = numbers;
}

pub shape_by : (given points : List (List ℤ)) (faces : List (List ℕ)) → points ≡ points_in_order given → ArePointsInRange given → (AreOnOnePlane points → ⊥) → faces ≡ faces_of_hull points → MakesShape (record { points = points; faces = faces })
shape_by given points faces e range solid ef = subst (λ fs. MakesShape (record { points = points; faces = fs })) (sym ef) (makes_shape points (subst ArePointsInRange (sym e) (range_different given range)) solid)

pub inside_by : (given points : List (List ℤ)) → points ≡ points_in_order given → (AreOnOnePlane points → ⊥) → (q : Coordinates) → pos 0 <ℤ q.w → IsInside (hull_of given) q ↔ IsInnerCombination (points_in_order given) q
inside_by given points e solid q hw = inside_where_combined (points_in_order given) (subst (λ ps. AreOnOnePlane ps → ⊥) e solid) q hw

-- ---- points with a hull
pub hull_is_shape : (given : List (List ℤ)) → HaveHull given → IsShape (hull_of given)
hull_is_shape given h = shape_of (hull_of given) (shape_by given (points_in_order given) (faces_of_hull (points_in_order given)) refl h.range h.solid refl)

pub hull_inside : (given : List (List ℤ)) → HaveHull given → (q : Coordinates) → pos 0 <ℤ q.w → IsInside (hull_of given) q ↔ IsInnerCombination (points_in_order given) q
hull_inside given h = inside_by given (points_in_order given) refl h.solid
