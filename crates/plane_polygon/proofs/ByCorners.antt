-- Polygons by their corners as points.
use Rattle.std.proofs.Common.{◌≡◌, ◌≢◌, ℕ, zero, suc, ◌<◌, [], ◌∷◌, refl, sym, ap, ap₂, ◌∙◌, subst, arith, ℤ, pos, negsuc, ◌*ℤ◌, neg_ℤ, ◌<ℤ◌}
use Rattle.std.proofs.Math.IntN.{*ℤ-zero}
use Rattle.std.proofs.lemmas.Int.{ints}
use Rattle.plane_predicate.specs.Space.{Coefficients, Coordinates, value, orientation_seen_from, inner_product, with_weight_above_zero}
use Rattle.plane_predicate.proofs.lemmas.IntegerRing.{sums}
use Rattle.plane_predicate.proofs.lemmas.Polynomials.{Poly, var, times, ring}
use Rattle.plane_predicate.proofs.lemmas.Signs.{neg_neg, pos_neg}
use Rattle.plane_predicate.proofs.lemmas.Vectors.{Place, form, place, of_plane, of_point, valueP, turnP}
use Rattle.plane_polygon.specs.Polygons.{Outline, edge_plane, edge_count, corner, corner_point, IsPolygon, HasConvexCorners}
use Rattle.plane_polygon.proofs.lemmas.CornerSides.{positive_meeting, positive_apart}
use Rattle.plane_polygon.proofs.lemmas.Faces.{earlier, after_injective, others_left}
use Rattle.plane_polygon.proofs.lemmas.Hull.{after_below, after_other, after_twice, corner_on, directed_apart, turn_is}
use Rattle.plane_predicate.specs.Indices.{index_after}

-- ---- a point with all its numbers multiplied
abbrev scaled : ℤ → Coordinates → Coordinates
scaled k p = record { x = k *ℤ p.x; y = k *ℤ p.y; z = k *ℤ p.z; w = k *ℤ p.w }

abbrev scaledP : Poly → Place → Place
scaledP k p = record { x = times k p.x; y = times k p.y; z = times k p.z; w = times k p.w }

value_scaled : (m : Coefficients) (k : ℤ) (p : Coordinates) → value m (scaled k p) ≡ k *ℤ value m p
value_scaled m k p =
    ring (of_plane m (of_point p (k ∷ []))) (valueP (form 0) (scaledP (var 8) (place 4))) (times (var 8) (valueP (form 0) (place 4))) refl

turn_scaled : (n : Coefficients) (a : ℤ) (p : Coordinates) (b : ℤ) (q r : Coordinates) → orientation_seen_from n (scaled a p) (scaled b q) r ≡ a *ℤ (b *ℤ orientation_seen_from n p q r)
turn_scaled n a p b q r =
    ring (of_plane n (of_point p (of_point q (of_point r (a ∷ b ∷ [])))))
    (turnP (form 0) (scaledP (var 16) (place 4)) (scaledP (var 17) (place 8)) (place 12))
    (times (var 16) (times (var 17) (turnP (form 0) (place 4) (place 8) (place 12)))) refl

-- ---- a point by the sign of a number
abbrev unit_of : ℤ → ℤ
unit_of (pos n) = pos 1
unit_of (negsuc n) = negsuc 0

once : (x : ℤ) → x ≡ pos 1 *ℤ x
once x = omega (arith, ints)

turned : (x : ℤ) → neg_ℤ x ≡ negsuc 0 *ℤ x
turned x = omega (arith, ints)

abbrev made : ℤ → ℤ → ℤ → ℤ → Coordinates
made x y z w = record { x = x; y = y; z = z; w = w }

same_numbers : (x y z w a b c d : ℤ) → x ≡ a → y ≡ b → z ≡ c → w ≡ d → made x y z w ≡ made a b c d
same_numbers x y z w a b c d ha hb hc hd = rw (ha, hb, hc, hd) refl

signed_scaled : (w : ℤ) (p : Coordinates) → with_weight_above_zero w p ≡ scaled (unit_of w) p
signed_scaled (pos n) p = same_numbers p.x p.y p.z p.w _ _ _ _ (once p.x) (once p.y) (once p.z) (once p.w)
signed_scaled (negsuc n) p = same_numbers (neg_ℤ p.x) (neg_ℤ p.y) (neg_ℤ p.z) (neg_ℤ p.w) _ _ _ _ (turned p.x) (turned p.y) (turned p.z) (turned p.w)

above_by_unit : (w t : ℤ) → w ≢ pos 0 → pos 0 <ℤ t → pos 0 <ℤ (unit_of w *ℤ t) → pos 0 <ℤ w
above_by_unit (pos zero) t h k l = absurd (h refl)
above_by_unit (pos (suc n)) t h k l = omega (arith, sums)
above_by_unit (negsuc n) t h k l = absurd (omega (arith, sums, turned t))

regrouped : (a b v x : ℤ) → a *ℤ (b *ℤ (v *ℤ x)) ≡ b *ℤ ((a *ℤ v) *ℤ x)
regrouped a b v x = ring (a ∷ b ∷ v ∷ x ∷ []) (times (var 0) (times (var 1) (times (var 2) (var 3)))) (times (var 1) (times (times (var 0) (var 2)) (var 3))) refl

-- ---- corners
corner_scaled : (s : Outline) (i : ℕ) → corner_point s i ≡ scaled (unit_of (corner s i).w) (corner s i)
corner_scaled s i = signed_scaled (corner s i).w (corner s i)

corner_point_on : (s : Outline) (i : ℕ) → value s.plane (corner_point s i) ≡ pos 0
corner_point_on s i =
    ap (value s.plane) (corner_scaled s i)
    ∙ value_scaled s.plane (unit_of (corner s i).w) (corner s i)
    ∙ ap (λ (v : ℤ). unit_of (corner s i).w *ℤ v) (corner_on s i)
    ∙ *ℤ-zero (unit_of (corner s i).w)

same_corner : (s : Outline) → ((i : ℕ) → i < edge_count s → pos 0 <ℤ (corner s i).w) → (i : ℕ) → i < edge_count s → corner_point s i ≡ corner s i
same_corner s h i l = positive_meeting s.plane (edge_plane s i) (edge_plane s (index_after (edge_count s) i)) (h i l)

-- the orientation at a corner
turn_at : (s : Outline) (i : ℕ) (q : Coordinates) → value s.plane q ≡ pos 0 →
    orientation_seen_from s.plane (corner_point s i) (corner_point s (index_after (edge_count s) i)) q
    ≡ unit_of (corner s (index_after (edge_count s) i)).w *ℤ ((unit_of (corner s i).w *ℤ value (edge_plane s (index_after (edge_count s) (index_after (edge_count s) i))) (corner s i)) *ℤ (inner_product s.plane s.plane *ℤ value (edge_plane s (index_after (edge_count s) i)) q))
turn_at s i q e =
    let j : ℕ = index_after (edge_count s) i in
    let a : ℤ = unit_of (corner s i).w in
    let b : ℤ = unit_of (corner s j).w in
    ap₂ (λ (p r : Coordinates). orientation_seen_from s.plane p r q) (corner_scaled s i) (corner_scaled s j)
    ∙ turn_scaled s.plane a (corner s i) b (corner s j) q
    ∙ ap (λ (t : ℤ). a *ℤ (b *ℤ t)) (turn_is s i q e)
    ∙ regrouped a b (value (edge_plane s (index_after (edge_count s) j)) (corner s i)) (inner_product s.plane s.plane *ℤ value (edge_plane s j) q)

-- the next edge turns left at a corner
next_turns_left : (s : Outline) → HasConvexCorners s → (i : ℕ) → i < edge_count s → pos 0 <ℤ (corner s (index_after (edge_count s) i)).w
next_turns_left s h i l =
    let k : ℕ = edge_count s in let j : ℕ = index_after k i in let m : ℕ = index_after k j in
    let lj : j < k = after_below k i l in
    let lm : m < k = after_below k j lj in
    let a : ℤ = unit_of (corner s i).w in
    let v : ℤ = value (edge_plane s m) (corner s i) in
    let q : Coordinates = corner_point s m in
    let f : ℤ = value (edge_plane s j) q in
    let far : (a *ℤ v) <ℤ pos 0 =
    subst (λ (x : ℤ). x <ℤ pos 0) (ap (value (edge_plane s m)) (corner_scaled s i) ∙ value_scaled (edge_plane s m) a (corner s i))
    (h.behind i m l lm (after_twice k i h.three l) (after_other k j h.three lj)) in
    let near : f <ℤ pos 0 =
    h.behind m j lm lj (λ e. after_other k j h.three lj (sym e)) (λ e. after_twice k i h.three l (sym (after_injective k i m l lm e))) in
    let t : ℤ = (a *ℤ v) *ℤ (inner_product s.plane s.plane *ℤ f) in
    let above : pos 0 <ℤ t =
    neg_neg (a *ℤ v) (inner_product s.plane s.plane *ℤ f) far
    (pos_neg (inner_product s.plane s.plane) f (directed_apart s.plane (edge_plane s i) (edge_plane s j) (h.exist i l)) near) in
    above_by_unit (corner s j).w t (h.exist j lj) above
    (subst (λ (x : ℤ). pos 0 <ℤ x) (turn_at s i q (corner_point_on s m)) (h.left i m l lm (after_twice k i h.three l) (after_other k j h.three lj)))

all_turn_left : (s : Outline) → HasConvexCorners s → (j : ℕ) → j < edge_count s → pos 0 <ℤ (corner s j).w
all_turn_left s h j l = let i = earlier (edge_count s) j l in subst (λ (n : ℕ). pos 0 <ℤ (corner s n).w) i.2 (next_turns_left s h i.0 i.1)

pub from_corners : (s : Outline) → HasConvexCorners s → IsPolygon s
from_corners s h = record {
  three = h.three;
  turns_left = all_turn_left s h;
  behind = λ i j l m a b. subst (λ (p : Coordinates). value (edge_plane s j) p <ℤ pos 0) (same_corner s (all_turn_left s h) i l) (h.behind i j l m a b);
}

left_as_points : (s : Outline) → IsPolygon s → (i j : ℕ) → i < edge_count s → j < edge_count s → j ≢ i → j ≢ index_after (edge_count s) i → pos 0 <ℤ orientation_seen_from s.plane (corner_point s i) (corner_point s (index_after (edge_count s) i)) (corner_point s j)
left_as_points s h i j l m a b =
    rw (same_corner s h.turns_left i l, same_corner s h.turns_left (index_after (edge_count s) i) (after_below (edge_count s) i l), same_corner s h.turns_left j m)
    (others_left s h i j l m a b)

pub to_corners : (s : Outline) → IsPolygon s → HasConvexCorners s
to_corners s h = record {
  three = h.three;
  exist = λ i l. positive_apart (corner s i).w (h.turns_left i l);
  behind = λ i j l m a b. subst (λ (p : Coordinates). value (edge_plane s j) p <ℤ pos 0) (sym (same_corner s h.turns_left i l)) (h.behind i j l m a b);
  left = left_as_points s h;
}
