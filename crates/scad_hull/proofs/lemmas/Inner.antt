-- Inner combinations lie behind each plane that bounds the points, and what lies behind all supports is one.
use Rattle.std.proofs.Common.{◌≡◌, inl, inr, [], ◌∷◌, List, get_or, length, map, ◌<◌, refl, sym, ap, ap₂, ◌∙◌, arith, ℤ, pos, negsuc, ◌+ℤ◌, ◌-ℤ◌, ◌*ℤ◌, neg_ℤ, ◌<ℤ◌, ◌≤ℤ◌, ℕ, zero, suc, All}
use Rattle.std.specs.List.{AllByRecursion}
use Rattle.std.proofs.lemmas.List.Elements.{All-from_recursion, recursion_from_All}
use Rattle.plane_predicate.specs.Space.{Coefficients, Coordinates, point_at, value, negated_point}
use Rattle.plane_predicate.proofs.lemmas.IntegerRing.{sums, mul_neg_right}
use Rattle.plane_predicate.proofs.lemmas.Polynomials.{var, num, plus, times, minus, ring}
use Rattle.plane_predicate.proofs.lemmas.Signs.{signs, pos_neg, least_most, neg_cancel}
use Rattle.plane_predicate.proofs.lemmas.Vectors.{form, place, of_plane, of_point, valueP}
use Rattle.primitives.specs.Shapes.{value_at_point}
use Rattle.scad_hull.specs.Combinations.{sum_of_weights, weighted_sum, IsInnerCombination}
use Rattle.scad_hull.specs.Hulls.{AreOnOnePlane}
use Rattle.scad_hull.proofs.lemmas.Alternative.{alternative, AreLeast, IsApart, IsCombination, axis, at_x, at_y, at_z, at_w, weighted_most}
use Rattle.scad_hull.proofs.Supports.{HasNoSupport, some_support}

-- the value of a plane at each point
abbrev pub values : Coefficients → List (List ℤ) → List ℤ
values m points = map (λ p. value m (point_at p)) points

abbrev AreAbove : List ℤ → Type 0
AreAbove weights = AllByRecursion (λ l. pos 0 <ℤ l) weights

weaker : (weights : List ℤ) → AreAbove weights → AreLeast weights
weaker [] h = tt
weaker (l ∷ weights) h = (omega (arith, sums, h.0), weaker weights h.1)

-- ---- the easy direction
one_value : (m a b c d x y z u v w t : ℤ) → m *ℤ (a *ℤ x +ℤ b *ℤ y +ℤ c *ℤ z -ℤ d *ℤ pos 1) +ℤ (a *ℤ u +ℤ b *ℤ v +ℤ c *ℤ w -ℤ d *ℤ t) ≡ a *ℤ (m *ℤ x +ℤ u) +ℤ b *ℤ (m *ℤ y +ℤ v) +ℤ c *ℤ (m *ℤ z +ℤ w) -ℤ d *ℤ (m +ℤ t)
one_value m a b c d x y z u v w t =
    ring (m ∷ a ∷ b ∷ c ∷ d ∷ x ∷ y ∷ z ∷ u ∷ v ∷ w ∷ t ∷ [])
    (plus (times (var 0) (minus (plus (plus (times (var 1) (var 5)) (times (var 2) (var 6))) (times (var 3) (var 7))) (times (var 4) (num (pos 1))))) (minus (plus (plus (times (var 1) (var 8)) (times (var 2) (var 9))) (times (var 3) (var 10))) (times (var 4) (var 11))))
    (minus (plus (plus (times (var 1) (plus (times (var 0) (var 5)) (var 8))) (times (var 2) (plus (times (var 0) (var 6)) (var 9)))) (times (var 3) (plus (times (var 0) (var 7)) (var 10)))) (times (var 4) (plus (var 0) (var 11)))) refl

no_values : (a b c d : ℤ) → pos 0 ≡ a *ℤ pos 0 +ℤ b *ℤ pos 0 +ℤ c *ℤ pos 0 -ℤ d *ℤ pos 0
no_values a b c d = ring (a ∷ b ∷ c ∷ d ∷ []) (num (pos 0)) (minus (plus (plus (times (var 0) (num (pos 0))) (times (var 1) (num (pos 0)))) (times (var 2) (num (pos 0)))) (times (var 3) (num (pos 0)))) refl

abbrev xs : List (List ℤ) → List ℤ
xs points = map (λ p. (point_at p).x) points

abbrev ys : List (List ℤ) → List ℤ
ys points = map (λ p. (point_at p).y) points

abbrev zs : List (List ℤ) → List ℤ
zs points = map (λ p. (point_at p).z) points

-- the sum of a plane's values, each times its weight
weighted_values : (m : Coefficients) (weights : List ℤ) (points : List (List ℤ)) → length weights ≡ length points →
    weighted_sum weights (values m points) ≡ m.a *ℤ weighted_sum weights (xs points) +ℤ m.b *ℤ weighted_sum weights (ys points) +ℤ m.c *ℤ weighted_sum weights (zs points) -ℤ m.d *ℤ sum_of_weights weights
weighted_values m [] points e = no_values m.a m.b m.c m.d
weighted_values m (l ∷ weights) [] e = absurd (omega (arith, e))
weighted_values m (l ∷ weights) (p ∷ points) e =
    let at = point_at p in
    ap (λ (z : ℤ). l *ℤ value m at +ℤ z) (weighted_values m weights points (omega (arith, e)))
    ∙ one_value l m.a m.b m.c m.d at.x at.y at.z (weighted_sum weights (xs points)) (weighted_sum weights (ys points)) (weighted_sum weights (zs points)) (sum_of_weights weights)

below_sum : (x y : ℤ) → x <ℤ pos 0 → y ≤ℤ pos 0 → (x +ℤ y) <ℤ pos 0
below_sum x y h k = omega (arith, sums, h, k)

most_below_sum : (x y : ℤ) → x ≤ℤ pos 0 → y <ℤ pos 0 → (x +ℤ y) <ℤ pos 0
most_below_sum x y h k = omega (arith, sums, h, k)

-- a sum of numbers that are at most 0, one of them below 0, with weights above 0
weighted_below : {X : Type 0} (f : X → ℤ) (weights : List ℤ) (ps : List X) (far : ℕ) (d : X) → length weights ≡ length ps → AreAbove weights → AllByRecursion (λ x. f x ≤ℤ pos 0) ps → far < length ps → f (get_or ps far d) <ℤ pos 0 → weighted_sum weights (map f ps) <ℤ pos 0
weighted_below f weights [] far d e h k lt below = absurd (omega (arith, lt))
weighted_below f [] (p ∷ ps) far d e h k lt below = absurd (omega (arith, e))
weighted_below f (l ∷ weights) (p ∷ ps) zero d e h k lt below = below_sum _ _ (pos_neg l (f p) h.0 below) (weighted_most f weights ps (weaker weights h.1) k.1)
weighted_below f (l ∷ weights) (p ∷ ps) (suc far) d e h k lt below = most_below_sum _ _ (least_most l (f p) (omega (arith, sums, h.0)) k.0) (weighted_below f weights ps far d (omega (arith, e)) h.1 k.1 (omega (arith, lt)) below)

least_total : (weights : List ℤ) → AreAbove weights → pos 0 ≤ℤ sum_of_weights weights
least_total [] h = omega (arith, sums)
least_total (l ∷ weights) h = omega (arith, sums, h.0, least_total weights h.1)

above_total : (weights : List ℤ) → 0 < length weights → AreAbove weights → pos 0 <ℤ sum_of_weights weights
above_total [] lt h = absurd (omega (arith, lt))
above_total (l ∷ weights) lt h = omega (arith, sums, h.0, least_total weights h.1)

gathered : (m w a b c d x y z u v s : ℤ) → m *ℤ x ≡ w *ℤ u → m *ℤ y ≡ w *ℤ v → m *ℤ z ≡ w *ℤ s → m *ℤ (a *ℤ x +ℤ b *ℤ y +ℤ c *ℤ z -ℤ d *ℤ w) ≡ w *ℤ (a *ℤ u +ℤ b *ℤ v +ℤ c *ℤ s -ℤ d *ℤ m)
gathered m w a b c d x y z u v s ex ey ez =
    ring (m ∷ w ∷ a ∷ b ∷ c ∷ d ∷ x ∷ y ∷ z ∷ []) (times (var 0) (minus (plus (plus (times (var 2) (var 6)) (times (var 3) (var 7))) (times (var 4) (var 8))) (times (var 5) (var 1))))
    (minus (plus (plus (times (var 2) (times (var 0) (var 6))) (times (var 3) (times (var 0) (var 7)))) (times (var 4) (times (var 0) (var 8)))) (times (var 5) (times (var 0) (var 1)))) refl
    ∙ rw (ex, ey, ez) (ring (m ∷ w ∷ a ∷ b ∷ c ∷ d ∷ u ∷ v ∷ s ∷ [])
    (minus (plus (plus (times (var 2) (times (var 1) (var 6))) (times (var 3) (times (var 1) (var 7)))) (times (var 4) (times (var 1) (var 8)))) (times (var 5) (times (var 0) (var 1))))
    (times (var 1) (minus (plus (plus (times (var 2) (var 6)) (times (var 3) (var 7))) (times (var 4) (var 8))) (times (var 5) (var 0)))) refl)

below_by : (x y : ℤ) → x ≡ y → y <ℤ pos 0 → x <ℤ pos 0
below_by x y e h = omega (arith, sums, e, h)

-- an inner combination is strictly behind a plane that no point is ahead of, and some point is behind
pub behind_each : (points : List (List ℤ)) (q : Coordinates) → pos 0 <ℤ q.w → IsInnerCombination points q → (m : Coefficients) → All (λ p. value m (point_at p) ≤ℤ pos 0) points → (far : ℕ) → far < length points → value_at_point points m far <ℤ pos 0 → value m q <ℤ pos 0
behind_each points q hw c m most far lt below =
    let above = recursion_from_All (λ l. pos 0 <ℤ l) c.weights c.above in
    let sum : weighted_sum c.weights (values m points) <ℤ pos 0 = weighted_below (λ p. value m (point_at p)) c.weights points far [] c.one_each above (recursion_from_All (λ p. value m (point_at p) ≤ℤ pos 0) points most) lt below in
    neg_cancel (sum_of_weights c.weights) (value m q) (above_total c.weights (omega (arith, c.one_each, lt)) above)
    (below_by _ _ (gathered (sum_of_weights c.weights) q.w m.a m.b m.c m.d q.x q.y q.z (weighted_sum c.weights (xs points)) (weighted_sum c.weights (ys points)) (weighted_sum c.weights (zs points)) c.x c.y c.z
    ∙ ap (λ (z : ℤ). q.w *ℤ z) (sym (weighted_values m c.weights points c.one_each))) (pos_neg q.w (weighted_sum c.weights (values m points)) hw sum))

-- ---- the hard direction
abbrev summed : List (List ℤ) → Coordinates
summed [] = record { x = pos 0; y = pos 0; z = pos 0; w = pos 0 }
summed (p ∷ points) = record { x = (point_at p).x +ℤ (summed points).x; y = (point_at p).y +ℤ (summed points).y; z = (point_at p).z +ℤ (summed points).z; w = (point_at p).w +ℤ (summed points).w }

two_summed : (m : Coefficients) (p q : Coordinates) → value m (record { x = p.x +ℤ q.x; y = p.y +ℤ q.y; z = p.z +ℤ q.z; w = p.w +ℤ q.w }) ≡ value m p +ℤ value m q
two_summed m p q =
    ring (of_plane m (of_point p (of_point q [])))
    (valueP (form 0) (record { x = plus (var 4) (var 8); y = plus (var 5) (var 9); z = plus (var 6) (var 10); w = plus (var 7) (var 11) })) (plus (valueP (form 0) (place 4)) (valueP (form 0) (place 8))) refl

none_summed : (m : Coefficients) → value m (summed []) ≡ pos 0
none_summed m = sym (no_values m.a m.b m.c m.d)

by_negative : (a b c d x y z w : ℤ) → a *ℤ neg_ℤ x +ℤ b *ℤ neg_ℤ y +ℤ c *ℤ neg_ℤ z -ℤ d *ℤ neg_ℤ w ≡ pos 0 -ℤ (a *ℤ x +ℤ b *ℤ y +ℤ c *ℤ z -ℤ d *ℤ w)
by_negative a b c d x y z w = omega (arith, sums, mul_neg_right a x, mul_neg_right b y, mul_neg_right c z, mul_neg_right d w)

value_negative : (m : Coefficients) (p : Coordinates) → value m (negated_point p) ≡ pos 0 -ℤ value m p
value_negative m p = by_negative m.a m.b m.c m.d p.x p.y p.z p.w

length_map : {X Y : Type 0} (f : X → Y) (ps : List X) → length (map f ps) ≡ length ps
length_map f [] = refl
length_map f (p ∷ ps) = ap suc (length_map f ps)

map_twice : {X Y Z : Type 0} (f : X → Y) (g : Y → Z) (ps : List X) → map g (map f ps) ≡ map (λ x. g (f x)) ps
map_twice f g [] = refl
map_twice f g (p ∷ ps) = ap (λ zs. g (f p) ∷ zs) (map_twice f g ps)

raised_part : (u l f w s : ℤ) → (u +ℤ l) *ℤ f +ℤ (w +ℤ u *ℤ s) ≡ (l *ℤ f +ℤ w) +ℤ u *ℤ (f +ℤ s)
raised_part u l f w s = ring (u ∷ l ∷ f ∷ w ∷ s ∷ []) (plus (times (plus (var 0) (var 1)) (var 2)) (plus (var 3) (times (var 0) (var 4)))) (plus (plus (times (var 1) (var 2)) (var 3)) (times (var 0) (plus (var 2) (var 4)))) refl

-- weights that are all raised by one number
weighted_raised : (m : Coefficients) (u : ℤ) (weights : List ℤ) (points : List (List ℤ)) → length weights ≡ length points → weighted_sum (map (λ l. u +ℤ l) weights) (values m points) ≡ weighted_sum weights (values m points) +ℤ u *ℤ value m (summed points)
weighted_raised m u [] [] e = sym (ap (λ (z : ℤ). pos 0 +ℤ u *ℤ z) (none_summed m) ∙ ring (u ∷ []) (plus (num (pos 0)) (times (var 0) (num (pos 0)))) (num (pos 0)) refl)
weighted_raised m u [] (p ∷ points) e = absurd (omega (arith, e))
weighted_raised m u (l ∷ weights) [] e = absurd (omega (arith, e))
weighted_raised m u (l ∷ weights) (p ∷ points) e =
    ap (λ (z : ℤ). (u +ℤ l) *ℤ value m (point_at p) +ℤ z) (weighted_raised m u weights points (omega (arith, e)))
    ∙ raised_part u l (value m (point_at p)) (weighted_sum weights (values m points)) (value m (summed points))
    ∙ ap (λ (z : ℤ). weighted_sum (l ∷ weights) (values m (p ∷ points)) +ℤ u *ℤ z) (sym (two_summed m (point_at p) (summed points)))

raised_above : (u : ℤ) (weights : List ℤ) → pos 0 <ℤ u → AreLeast weights → AreAbove (map (λ l. u +ℤ l) weights)
raised_above u [] hu h = tt
raised_above u (l ∷ weights) hu h = (omega (arith, sums, hu, h.0), raised_above u weights hu h.1)

weighted_same : {X : Type 0} (f k : X → ℤ) → ((x : X) → f x ≡ k x) → (weights : List ℤ) (ps : List X) → weighted_sum weights (map f ps) ≡ weighted_sum weights (map k ps)
weighted_same f k e [] ps = refl
weighted_same f k e (l ∷ weights) [] = refl
weighted_same f k e (l ∷ weights) (p ∷ ps) = ap₂ (λ (u v : ℤ). l *ℤ u +ℤ v) (e p) (weighted_same f k e weights ps)

one_total : (l t : ℤ) → l *ℤ pos 1 +ℤ t ≡ l +ℤ t
one_total l t = ring (l ∷ t ∷ []) (plus (times (var 0) (num (pos 1))) (var 1)) (plus (var 0) (var 1)) refl

weighted_ones : {X : Type 0} (weights : List ℤ) (ps : List X) → length weights ≡ length ps → weighted_sum weights (map (λ x. pos 1) ps) ≡ sum_of_weights weights
weighted_ones [] ps e = refl
weighted_ones (l ∷ weights) [] e = absurd (omega (arith, e))
weighted_ones (l ∷ weights) (p ∷ ps) e = ap (λ (z : ℤ). l *ℤ pos 1 +ℤ z) (weighted_ones weights ps (omega (arith, e))) ∙ one_total l (sum_of_weights weights)

-- u times minus s is v times minus q, plus w
brought_over : (u v s q w : ℤ) → u *ℤ (pos 0 -ℤ s) ≡ v *ℤ (pos 0 -ℤ q) +ℤ w → v *ℤ q ≡ w +ℤ u *ℤ s
brought_over u v s q w e =
    omega (arith, sums, e, ring (u ∷ s ∷ []) (times (var 0) (minus (num (pos 0)) (var 1))) (minus (num (pos 0)) (times (var 0) (var 1))) refl, ring (v ∷ q ∷ []) (times (var 0) (minus (num (pos 0)) (var 1))) (minus (num (pos 0)) (times (var 0) (var 1))) refl)

-- a point q, taken v times, as each plane sees it
abbrev IsSeenAs : List (List ℤ) → Coordinates → ℤ → List ℤ → Type 0
IsSeenAs points q v weights = (m : Coefficients) → v *ℤ value m q ≡ weighted_sum weights (values m points)

exchanged : (v w x t u : ℤ) → v *ℤ w ≡ t → v *ℤ x ≡ u → t *ℤ x ≡ w *ℤ u
exchanged v w x t u et eu = ap (λ (z : ℤ). z *ℤ x) (sym et) ∙ ring (v ∷ w ∷ x ∷ []) (times (times (var 0) (var 1)) (var 2)) (times (var 1) (times (var 0) (var 2))) refl ∙ ap (λ (z : ℤ). w *ℤ z) eu

seen_from : (points : List (List ℤ)) (q : Coordinates) (v : ℤ) (weights : List ℤ) (m : Coefficients) (f : Coordinates → ℤ) → ((p : Coordinates) → value m p ≡ f p) → IsSeenAs points q v weights → v *ℤ f q ≡ weighted_sum weights (map (λ p. f (point_at p)) points)
seen_from points q v weights m f e h = ap (λ (z : ℤ). v *ℤ z) (sym (e q)) ∙ h m ∙ weighted_same (λ p. value m (point_at p)) (λ p. f (point_at p)) (λ p. e (point_at p)) weights points

pub by_planes : (points : List (List ℤ)) (q : Coordinates) (v : ℤ) (weights : List ℤ) → length weights ≡ length points → AreAbove weights → IsSeenAs points q v weights → IsInnerCombination points q
by_planes points q v weights e above h =
    let t : v *ℤ q.w ≡ sum_of_weights weights = seen_from points q v weights (axis (pos 0) (pos 0) (pos 0) (negsuc 0)) (λ p. p.w) (λ p. at_w (negsuc 0) p.x p.y p.z p.w ∙ ring (p.w ∷ []) (minus (num (pos 0)) (times (num (negsuc 0)) (var 0))) (var 0) refl) h ∙ weighted_ones weights points e in
    record {
      weights = weights;
      one_each = e;
      above = All-from_recursion (λ l. pos 0 <ℤ l) weights above;
      x = exchanged v q.w q.x (sum_of_weights weights) _ t (seen_from points q v weights (axis (pos 1) (pos 0) (pos 0) (pos 0)) (λ p. p.x) (λ p. at_x (pos 1) p.x p.y p.z p.w ∙ ring (p.x ∷ []) (times (num (pos 1)) (var 0)) (var 0) refl) h);
      y = exchanged v q.w q.y (sum_of_weights weights) _ t (seen_from points q v weights (axis (pos 0) (pos 1) (pos 0) (pos 0)) (λ p. p.y) (λ p. at_y (pos 1) p.x p.y p.z p.w ∙ ring (p.y ∷ []) (times (num (pos 1)) (var 0)) (var 0) refl) h);
      z = exchanged v q.w q.z (sum_of_weights weights) _ t (seen_from points q v weights (axis (pos 0) (pos 0) (pos 1) (pos 0)) (λ p. p.z) (λ p. at_z (pos 1) p.x p.y p.z p.w ∙ ring (p.z ∷ []) (times (num (pos 1)) (var 0)) (var 0) refl) h);
    }

from_weights_of : (points : List (List ℤ)) (q : Coordinates) (weights : List ℤ) (u : ℤ) → length weights ≡ suc (length (map point_at points)) → AreLeast weights → pos 0 <ℤ u →
    ((m : Coefficients) → u *ℤ value m (negated_point (summed points)) ≡ weighted_sum weights (value m (negated_point q) ∷ map (λ v. value m v) (map point_at points))) → IsInnerCombination points q
from_weights_of points q [] u e least above sum = absurd (omega (arith, e))
from_weights_of points q (v ∷ weights) u e least above sum =
    let same : length weights ≡ length points = omega (arith, e, length_map point_at points) in
    by_planes points q v (map (λ l. u +ℤ l) weights) (length_map (λ l. u +ℤ l) weights ∙ same) (raised_above u weights above least.1)
    (λ m. brought_over u v (value m (summed points)) (value m q) (weighted_sum weights (values m points))
    (ap (λ (z : ℤ). u *ℤ z) (sym (value_negative m (summed points))) ∙ sum m ∙ ap₂ (λ (y : ℤ) (ns : List ℤ). v *ℤ y +ℤ weighted_sum weights ns) (value_negative m q) (map_twice point_at (λ p. value m p) points))
    ∙ sym (weighted_raised m u weights points same))

-- the alternative's weights for minus q and the points, of which minus their sum is the target
from_weights : (points : List (List ℤ)) (q : Coordinates) → IsCombination (negated_point q ∷ map point_at points) (λ p. p) (negated_point (summed points)) → IsInnerCombination points q
from_weights points q c = from_weights_of points q c.weights c.by c.one_each c.least c.above c.sum

-- ---- the plane that keeps them apart
some_below : (m : Coefficients) (points : List (List ℤ)) → value m (summed points) <ℤ pos 0 → (k : ℕ) × (k < length points) × (value_at_point points m k <ℤ pos 0)
some_below m [] h = absurd (omega (arith, sums, none_summed m, h))
some_below m (p ∷ points) h = elim (signs (value m (point_at p))) [
  | inl below ↦ (0, omega arith, below)
  | inr other ↦ (
      let rest = some_below m points (omega (arith, sums, h, two_summed m (point_at p) (summed points), elim other as (λ _. pos 0 ≤ℤ value m (point_at p)) [ inl none ↦ omega (arith, sums, none) | inr above ↦ omega (arith, sums, above) ])) in
      (suc rest.0, omega (arith, rest.1), rest.2))
]

all_mapped : (m : Coefficients) (points : List (List ℤ)) → AllByRecursion (λ v. value m v ≤ℤ pos 0) (map point_at points) → AllByRecursion (λ p. value m (point_at p) ≤ℤ pos 0) points
all_mapped m [] h = tt
all_mapped m (p ∷ points) h = (h.0, all_mapped m points h.1)

from_apart : (points : List (List ℤ)) (q : Coordinates) → (AreOnOnePlane points → ⊥) → HasNoSupport points q → IsApart (negated_point q ∷ map point_at points) (λ p. p) (negated_point (summed points)) → ⊥
from_apart points q solid none k =
    let far = some_below k.plane points (omega (arith, sums, value_negative k.plane (summed points), k.ahead)) in
    some_support points q solid k.plane (record {
      most = λ i lt. All-from_recursion (λ p. value k.plane (point_at p) ≤ℤ pos 0) points (all_mapped k.plane points k.most.1) i [] lt;
      at = omega (arith, sums, value_negative k.plane q, k.most.0);
      far = far.0;
      far_in = far.1;
      behind = far.2;
    }) none

-- a point that no support has on it or behind is an inner combination
pub inner : (points : List (List ℤ)) (q : Coordinates) → (AreOnOnePlane points → ⊥) → HasNoSupport points q → IsInnerCombination points q
inner points q solid none = elim (alternative (negated_point q ∷ map point_at points) (λ p. p) (negated_point (summed points))) [
  | inl c ↦ from_weights points q c
  | inr k ↦ absurd (from_apart points q solid none k)
]
