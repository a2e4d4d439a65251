-- A shape that is the hull of its points is so wherever it is moved.
use Rattle.std.proofs.Common.{◌≡◌, ◌↔◌, ◌<◌, ℕ, inl, inr, List, [], ◌∷◌, ◌++◌, length, get_or, map, flat_map, refl, sym, ap, ap₂, All, ◌∙◌, subst, arith, ℤ, pos, negsuc, ◌+ℤ◌, ◌-ℤ◌, ◌*ℤ◌, ◌<ℤ◌}
use Rattle.std.specs.List.{AllByRecursion}
use Rattle.std.proofs.lemmas.List.{get_or-map, length-map, map-append}
use Rattle.std.proofs.lemmas.List.Elements.{recursion_from_All}
use Rattle.std.proofs.lemmas.Simd.{map-map}
use Rattle.plane_predicate.specs.Space.{Coefficients, Coordinates, determinant, minor, point_at, value}
use Rattle.plane_predicate.proofs.lemmas.IntegerRing.{sums}
use Rattle.plane_predicate.proofs.lemmas.Polynomials.{Poly, var, num, plus, times, minus, ring}
use Rattle.plane_predicate.proofs.lemmas.Signs.{signs, neg_cancel, pos_neg, pos_pos, zero_cancel}
use Rattle.plane_predicate.proofs.lemmas.Vectors.{Place, determinantP, form, minorP, of_plane, of_point, place, valueP}
use Rattle.int_transform.specs.declared.affine.Affine.{Affine}
use Rattle.int_transform.specs.declared.affine.Row.{Row}
use Rattle.int_transform.specs.Maps.{coordinate_list, determinant_of, image, row_at}
use Rattle.int_transform.proofs.lemmas.Images.{imageP, of_map}
use Rattle.primitives.specs.Placing.{moved_mesh}
use Rattle.primitives.specs.Shapes.{Mesh, IsInside, IsShape}
use Rattle.primitives.proofs.lemmas.Moves.{cancelled}
use Rattle.primitives.proofs.lemmas.Transforms.{inside-moved_mesh}
use Rattle.scad_hull.specs.Combinations.{sum_of_weights, weighted_sum, IsInnerCombination}
use Rattle.shape_hulls.specs.OwnHulls.{corner_points, IsHullOfItsCorners, IsHullOfItsPoints}
use Rattle.shape_hulls.proofs.Axes.{less_by, no_times}

-- ---- the same point by other numbers
abbrev scaled : ℤ → Coordinates → Coordinates
scaled k q = record { x = k *ℤ q.x; y = k *ℤ q.y; z = k *ℤ q.z; w = k *ℤ q.w }

value_scaled : (m : Coefficients) (k : ℤ) (q : Coordinates) → value m (scaled k q) ≡ k *ℤ value m q
value_scaled m k q =
    ring (of_plane m (of_point q (k ∷ []))) (valueP (form 0) (record { x = times (var 8) (var 4); y = times (var 8) (var 5); z = times (var 8) (var 6); w = times (var 8) (var 7) })) (times (var 8) (valueP (form 0) (place 4))) refl

inside_scaled : (mesh : Mesh) (k : ℤ) (q : Coordinates) → pos 0 <ℤ k → IsInside mesh (scaled k q) ↔ IsInside mesh q
inside_scaled mesh k q above = (
  λ h j d lt. (let b = h j d lt in record { plane = b.plane; is = b.is; behind = neg_cancel k (value b.plane q) above (less_by _ _ (value_scaled b.plane k q) b.behind) }),
  λ h j d lt. (let b = h j d lt in record { plane = b.plane; is = b.is; behind = less_by _ _ (sym (value_scaled b.plane k q)) (pos_neg k (value b.plane q) above b.behind) }),
)

times_more : (k m x w s : ℤ) → m *ℤ x ≡ w *ℤ s → m *ℤ (k *ℤ x) ≡ (k *ℤ w) *ℤ s
times_more k m x w s e =
    ring (k ∷ m ∷ x ∷ []) (times (var 1) (times (var 0) (var 2))) (times (var 0) (times (var 1) (var 2))) refl
    ∙ ap (λ (t : ℤ). k *ℤ t) e ∙ ring (k ∷ w ∷ s ∷ []) (times (var 0) (times (var 1) (var 2))) (times (times (var 0) (var 1)) (var 2)) refl

times_less : (k m x w s : ℤ) → pos 0 <ℤ k → m *ℤ (k *ℤ x) ≡ (k *ℤ w) *ℤ s → m *ℤ x ≡ w *ℤ s
times_less k m x w s above e =
    let none = zero_cancel k (m *ℤ x -ℤ w *ℤ s) above (omega (arith, sums, e, ring (k ∷ m ∷ x ∷ w ∷ s ∷ []) (times (var 0) (minus (times (var 1) (var 2)) (times (var 3) (var 4)))) (minus (times (var 1) (times (var 0) (var 2))) (times (times (var 0) (var 3)) (var 4))) refl)) in
    omega (arith, sums, none)

combined_scaled : (points : List (List ℤ)) (k : ℤ) (q : Coordinates) → pos 0 <ℤ k → IsInnerCombination points (scaled k q) ↔ IsInnerCombination points q
combined_scaled points k q above = (
  λ c. record {
    weights = c.weights;
    one_each = c.one_each;
    above = c.above;
    x = times_less k (sum_of_weights c.weights) q.x q.w (weighted_sum c.weights (map (λ p. (point_at p).x) points)) above c.x;
    y = times_less k (sum_of_weights c.weights) q.y q.w (weighted_sum c.weights (map (λ p. (point_at p).y) points)) above c.y;
    z = times_less k (sum_of_weights c.weights) q.z q.w (weighted_sum c.weights (map (λ p. (point_at p).z) points)) above c.z;
  },
  λ c. record {
    weights = c.weights;
    one_each = c.one_each;
    above = c.above;
    x = times_more k (sum_of_weights c.weights) q.x q.w (weighted_sum c.weights (map (λ p. (point_at p).x) points)) c.x;
    y = times_more k (sum_of_weights c.weights) q.y q.w (weighted_sum c.weights (map (λ p. (point_at p).y) points)) c.y;
    z = times_more k (sum_of_weights c.weights) q.z q.w (weighted_sum c.weights (map (λ p. (point_at p).z) points)) c.z;
  },
)

-- ---- a point whose image is a given one
-- s times Cramer's solution
abbrev solution : ℤ → Affine → Coordinates → Coordinates
solution s f q =
    let u = q.x -ℤ f.x.d *ℤ q.w in let v = q.y -ℤ f.y.d *ℤ q.w in let t = q.z -ℤ f.z.d *ℤ q.w in
    record {
      x = s *ℤ (u *ℤ minor f.y.b f.y.c f.z.b f.z.c +ℤ v *ℤ minor f.z.b f.z.c f.x.b f.x.c +ℤ t *ℤ minor f.x.b f.x.c f.y.b f.y.c);
      y = s *ℤ (u *ℤ minor f.y.c f.y.a f.z.c f.z.a +ℤ v *ℤ minor f.z.c f.z.a f.x.c f.x.a +ℤ t *ℤ minor f.x.c f.x.a f.y.c f.y.a);
      z = s *ℤ (u *ℤ minor f.y.a f.y.b f.z.a f.z.b +ℤ v *ℤ minor f.z.a f.z.b f.x.a f.x.b +ℤ t *ℤ minor f.x.a f.x.b f.y.a f.y.b);
      w = s *ℤ (determinant_of f *ℤ q.w);
    }

abbrev mapP : Poly
mapP = let X = form 0 in let Y = form 4 in let Z = form 8 in determinantP X.a X.b X.c Y.a Y.b Y.c Z.a Z.b Z.c

abbrev solutionP : Place
solutionP =
    let X = form 0 in let Y = form 4 in let Z = form 8 in let Q = place 12 in let S = var 16 in
    let u = minus Q.x (times X.d Q.w) in let v = minus Q.y (times Y.d Q.w) in let t = minus Q.z (times Z.d Q.w) in
    record {
      x = times S (plus (plus (times u (minorP Y.b Y.c Z.b Z.c)) (times v (minorP Z.b Z.c X.b X.c))) (times t (minorP X.b X.c Y.b Y.c)));
      y = times S (plus (plus (times u (minorP Y.c Y.a Z.c Z.a)) (times v (minorP Z.c Z.a X.c X.a))) (times t (minorP X.c X.a Y.c Y.a)));
      z = times S (plus (plus (times u (minorP Y.a Y.b Z.a Z.b)) (times v (minorP Z.a Z.b X.a X.b))) (times t (minorP X.a X.b Y.a Y.b)));
      w = times S (times mapP Q.w);
    }

solved : (s : ℤ) (f : Affine) (q : Coordinates) → image f (solution s f q) ≡ scaled (s *ℤ determinant_of f) q
solved s f q =
    let vs = of_map f (of_point q (s ∷ [])) in
    let I = imageP (form 0) (form 4) (form 8) solutionP in
    let k = times (var 16) mapP in
    let ex = ring vs I.x (times k (var 12)) refl in
    let ey = ring vs I.y (times k (var 13)) refl in
    let ez = ring vs I.z (times k (var 14)) refl in
    let ew = ring vs I.w (times k (var 15)) refl in
    λ i. record { x = ex i; y = ey i; z = ez i; w = ew i }

-- a point whose image is the given one, by other numbers
record HasSource (f : Affine) (q : Coordinates) : Type 0 where
  point : Coordinates
  by : ℤ
  above : pos 0 <ℤ by
  is : image f point ≡ scaled by q

source : (f : Affine) (q : Coordinates) → (determinant_of f ≡ pos 0 → ⊥) → HasSource f q
source f q regular = elim (signs (determinant_of f)) [
  | inl below ↦ record { point = solution (negsuc 0) f q; by = negsuc 0 *ℤ determinant_of f; above = omega (arith, sums, below, ring (determinant_of f ∷ []) (times (num (negsuc 0)) (var 0)) (minus (num (pos 0)) (var 0)) refl); is = solved (negsuc 0) f q }
  | inr (inl none) ↦ absurd (regular none)
  | inr (inr above) ↦ record { point = solution (pos 1) f q; by = pos 1 *ℤ determinant_of f; above = omega (arith, sums, above, ring (determinant_of f ∷ []) (times (num (pos 1)) (var 0)) (var 0) refl); is = solved (pos 1) f q }
]

-- ---- images of combinations
abbrev xs : List (List ℤ) → List ℤ
xs points = map (λ p. (point_at p).x) points

abbrev ys : List (List ℤ) → List ℤ
ys points = map (λ p. (point_at p).y) points

abbrev zs : List (List ℤ) → List ℤ
zs points = map (λ p. (point_at p).z) points

abbrev moved : Affine → List (List ℤ) → List (List ℤ)
moved f points = map (λ p. coordinate_list (image f (point_at p))) points

one_more : (l a b c d x y z u v w t : ℤ) → l *ℤ (a *ℤ x +ℤ b *ℤ y +ℤ c *ℤ z +ℤ d *ℤ pos 1) +ℤ (a *ℤ u +ℤ b *ℤ v +ℤ c *ℤ w +ℤ d *ℤ t) ≡ a *ℤ (l *ℤ x +ℤ u) +ℤ b *ℤ (l *ℤ y +ℤ v) +ℤ c *ℤ (l *ℤ z +ℤ w) +ℤ d *ℤ (l +ℤ t)
one_more l a b c d x y z u v w t =
    ring (l ∷ a ∷ b ∷ c ∷ d ∷ x ∷ y ∷ z ∷ u ∷ v ∷ w ∷ t ∷ [])
    (plus (times (var 0) (plus (plus (plus (times (var 1) (var 5)) (times (var 2) (var 6))) (times (var 3) (var 7))) (times (var 4) (num (pos 1))))) (plus (plus (plus (times (var 1) (var 8)) (times (var 2) (var 9))) (times (var 3) (var 10))) (times (var 4) (var 11))))
    (plus (plus (plus (times (var 1) (plus (times (var 0) (var 5)) (var 8))) (times (var 2) (plus (times (var 0) (var 6)) (var 9)))) (times (var 3) (plus (times (var 0) (var 7)) (var 10)))) (times (var 4) (plus (var 0) (var 11)))) refl

none_more : (a b c d : ℤ) → pos 0 ≡ a *ℤ pos 0 +ℤ b *ℤ pos 0 +ℤ c *ℤ pos 0 +ℤ d *ℤ pos 0
none_more a b c d = ring (a ∷ b ∷ c ∷ d ∷ []) (num (pos 0)) (plus (plus (plus (times (var 0) (num (pos 0))) (times (var 1) (num (pos 0)))) (times (var 2) (num (pos 0)))) (times (var 3) (num (pos 0)))) refl

-- one coordinate of the images, each times its weight
weighted_row : (r : Row) (weights : List ℤ) (points : List (List ℤ)) → length weights ≡ length points →
    weighted_sum weights (map (λ p. row_at r (point_at p)) points) ≡ r.a *ℤ weighted_sum weights (xs points) +ℤ r.b *ℤ weighted_sum weights (ys points) +ℤ r.c *ℤ weighted_sum weights (zs points) +ℤ r.d *ℤ sum_of_weights weights
weighted_row r [] points e = none_more r.a r.b r.c r.d
weighted_row r (l ∷ weights) [] e = absurd (omega (arith, e))
weighted_row r (l ∷ weights) (p ∷ points) e =
    let at = point_at p in
    ap (λ (z : ℤ). l *ℤ row_at r at +ℤ z) (weighted_row r weights points (omega (arith, e)))
    ∙ one_more l r.a r.b r.c r.d at.x at.y at.z (weighted_sum weights (xs points)) (weighted_sum weights (ys points)) (weighted_sum weights (zs points)) (sum_of_weights weights)

-- a row of a map at a point, and the same of the sums: m x = w u and so on
row_forth : (m w a b c d x y z u v t : ℤ) → m *ℤ x ≡ w *ℤ u → m *ℤ y ≡ w *ℤ v → m *ℤ z ≡ w *ℤ t → m *ℤ (a *ℤ x +ℤ b *ℤ y +ℤ c *ℤ z +ℤ d *ℤ w) ≡ w *ℤ (a *ℤ u +ℤ b *ℤ v +ℤ c *ℤ t +ℤ d *ℤ m)
row_forth m w a b c d x y z u v t ex ey ez =
    ring (m ∷ w ∷ a ∷ b ∷ c ∷ d ∷ x ∷ y ∷ z ∷ []) (times (var 0) (plus (plus (plus (times (var 2) (var 6)) (times (var 3) (var 7))) (times (var 4) (var 8))) (times (var 5) (var 1))))
    (plus (plus (plus (times (var 2) (times (var 0) (var 6))) (times (var 3) (times (var 0) (var 7)))) (times (var 4) (times (var 0) (var 8)))) (times (var 5) (times (var 0) (var 1)))) refl
    ∙ rw (ex, ey, ez) (ring (m ∷ w ∷ a ∷ b ∷ c ∷ d ∷ u ∷ v ∷ t ∷ [])
    (plus (plus (plus (times (var 2) (times (var 1) (var 6))) (times (var 3) (times (var 1) (var 7)))) (times (var 4) (times (var 1) (var 8)))) (times (var 5) (times (var 0) (var 1))))
    (times (var 1) (plus (plus (plus (times (var 2) (var 6)) (times (var 3) (var 7))) (times (var 4) (var 8))) (times (var 5) (var 0)))) refl)

row_back : (m w a b c d x y z u v t : ℤ) → m *ℤ (a *ℤ x +ℤ b *ℤ y +ℤ c *ℤ z +ℤ d *ℤ w) ≡ w *ℤ (a *ℤ u +ℤ b *ℤ v +ℤ c *ℤ t +ℤ d *ℤ m) → a *ℤ (m *ℤ x -ℤ w *ℤ u) +ℤ b *ℤ (m *ℤ y -ℤ w *ℤ v) +ℤ c *ℤ (m *ℤ z -ℤ w *ℤ t) ≡ pos 0
row_back m w a b c d x y z u v t e =
    omega (
      arith,
      sums,
      e,
      ring (m ∷ w ∷ a ∷ b ∷ c ∷ d ∷ x ∷ y ∷ z ∷ u ∷ v ∷ t ∷ [])
          (plus (plus (times (var 2) (minus (times (var 0) (var 6)) (times (var 1) (var 9)))) (times (var 3) (minus (times (var 0) (var 7)) (times (var 1) (var 10))))) (times (var 4) (minus (times (var 0) (var 8)) (times (var 1) (var 11)))))
          (minus (times (var 0) (plus (plus (plus (times (var 2) (var 6)) (times (var 3) (var 7))) (times (var 4) (var 8))) (times (var 5) (var 1)))) (times (var 1) (plus (plus (plus (times (var 2) (var 9)) (times (var 3) (var 10))) (times (var 4) (var 11))) (times (var 5) (var 0))))) refl,
    )

no_three : (p q r x y z : ℤ) → x ≡ pos 0 → y ≡ pos 0 → z ≡ pos 0 → x *ℤ p +ℤ y *ℤ q +ℤ z *ℤ r ≡ pos 0
no_three p q r x y z ex ey ez = omega (arith, sums, no_times x p ex, no_times y q ey, no_times z r ez)

-- three numbers that every row of a map with a determinant takes to 0
record AreNone (u v t : ℤ) : Type 0 where
  x : u ≡ pos 0
  y : v ≡ pos 0
  z : t ≡ pos 0

no_kernel : (a b c d e f g h i u v t : ℤ) → (determinant a b c d e f g h i ≡ pos 0 → ⊥) → a *ℤ u +ℤ b *ℤ v +ℤ c *ℤ t ≡ pos 0 → d *ℤ u +ℤ e *ℤ v +ℤ f *ℤ t ≡ pos 0 → g *ℤ u +ℤ h *ℤ v +ℤ i *ℤ t ≡ pos 0 → AreNone u v t
no_kernel a b c d e f g h i u v t regular first second third =
    let A = var 0 in let B = var 1 in let C = var 2 in let D = var 3 in let E = var 4 in let F = var 5 in let G = var 6 in let H = var 7 in let I = var 8 in let U = var 9 in let V = var 10 in let T = var 11 in
    let vs = a ∷ b ∷ c ∷ d ∷ e ∷ f ∷ g ∷ h ∷ i ∷ u ∷ v ∷ t ∷ [] in
    let k = determinant a b c d e f g h i in
    let K = determinantP A B C D E F G H I in
    let one = plus (plus (times A U) (times B V)) (times C T) in
    let two = plus (plus (times D U) (times E V)) (times F T) in
    let three = plus (plus (times G U) (times H V)) (times I T) in
    record {
      x = cancelled k u regular (ring vs (times K U) (plus (plus (times one (minorP E F H I)) (times two (minorP H I B C))) (times three (minorP B C E F))) refl ∙ no_three (minor e f h i) (minor h i b c) (minor b c e f) _ _ _ first second third);
      y = cancelled k v regular (ring vs (times K V) (plus (plus (times one (minorP F D I G)) (times two (minorP I G C A))) (times three (minorP C A F D))) refl ∙ no_three (minor f d i g) (minor i g c a) (minor c a f d) _ _ _ first second third);
      z = cancelled k t regular (ring vs (times K T) (plus (plus (times one (minorP D E G H)) (times two (minorP G H A B))) (times three (minorP A B D E))) refl ∙ no_three (minor d e g h) (minor g h a b) (minor a b d e) _ _ _ first second third);
    }

same_by : (x y : ℤ) → x -ℤ y ≡ pos 0 → x ≡ y
same_by x y e = omega (arith, sums, e)

-- the image of a combination is the combination of the images with the same weights
combined_moved : (f : Affine) (points : List (List ℤ)) (p : Coordinates) → IsInnerCombination points p → IsInnerCombination (moved f points) (image f p)
combined_moved f points p c =
    let n = sum_of_weights c.weights in
    let sum = λ (r : Row). row_forth n p.w r.a r.b r.c r.d p.x p.y p.z (weighted_sum c.weights (xs points)) (weighted_sum c.weights (ys points)) (weighted_sum c.weights (zs points)) c.x c.y c.z ∙ ap (λ (t : ℤ). p.w *ℤ t) (sym (weighted_row r c.weights points c.one_each)) in
    let g = λ (q : List ℤ). coordinate_list (image f (point_at q)) in
    record {
      weights = c.weights;
      one_each = c.one_each ∙ sym (length-map points g);
      above = c.above;
      x = sum f.x ∙ ap (λ (ns : List ℤ). p.w *ℤ weighted_sum c.weights ns) (sym (map-map (λ q. (point_at q).x) g points));
      y = sum f.y ∙ ap (λ (ns : List ℤ). p.w *ℤ weighted_sum c.weights ns) (sym (map-map (λ q. (point_at q).y) g points));
      z = sum f.z ∙ ap (λ (ns : List ℤ). p.w *ℤ weighted_sum c.weights ns) (sym (map-map (λ q. (point_at q).z) g points));
    }

-- and the other way round
combined_before : (f : Affine) (points : List (List ℤ)) (p : Coordinates) → (determinant_of f ≡ pos 0 → ⊥) → IsInnerCombination (moved f points) (image f p) → IsInnerCombination points p
combined_before f points p regular c =
    let n = sum_of_weights c.weights in
    let g = λ (q : List ℤ). coordinate_list (image f (point_at q)) in
    let each = c.one_each ∙ length-map points g in
    let back = λ (r : Row) (e : n *ℤ row_at r p ≡ p.w *ℤ weighted_sum c.weights (map (λ q. row_at r (point_at q)) points)). row_back n p.w r.a r.b r.c r.d p.x p.y p.z (weighted_sum c.weights (xs points)) (weighted_sum c.weights (ys points)) (weighted_sum c.weights (zs points)) (e ∙ ap (λ (t : ℤ). p.w *ℤ t) (weighted_row r c.weights points each)) in
    let none = no_kernel f.x.a f.x.b f.x.c f.y.a f.y.b f.y.c f.z.a f.z.b f.z.c _ _ _ regular
    (back f.x (c.x ∙ ap (λ (ns : List ℤ). p.w *ℤ weighted_sum c.weights ns) (map-map (λ q. (point_at q).x) g points)))
    (back f.y (c.y ∙ ap (λ (ns : List ℤ). p.w *ℤ weighted_sum c.weights ns) (map-map (λ q. (point_at q).y) g points)))
    (back f.z (c.z ∙ ap (λ (ns : List ℤ). p.w *ℤ weighted_sum c.weights ns) (map-map (λ q. (point_at q).z) g points))) in
    record { weights = c.weights; one_each = each; above = c.above; x = same_by _ _ none.x; y = same_by _ _ none.y; z = same_by _ _ none.z }

-- ---- the moved shape
after_above : (f : Affine) (q : Coordinates) (s : HasSource f q) → pos 0 <ℤ q.w → pos 0 <ℤ s.point.w
after_above f q s above = subst (λ (p : Coordinates). pos 0 <ℤ p.w) (sym s.is) (pos_pos s.by q.w s.above above)

-- what is inside a moved shape, where the inside of the shape is the inner combinations of some points
pub moved_inside : (mesh : Mesh) (f : Affine) (points : List (List ℤ)) → IsShape mesh → (determinant_of f ≡ pos 0 → ⊥) → ((q : Coordinates) → pos 0 <ℤ q.w → IsInside mesh q ↔ IsInnerCombination points q) → (q : Coordinates) → pos 0 <ℤ q.w → IsInside (moved_mesh f mesh) q ↔ IsInnerCombination (moved f points) q
moved_inside mesh f points shape regular hull q above =
    let s = source f q regular in
    let inside = inside-moved_mesh f mesh regular shape.faces s.point in
    let combined = hull s.point (after_above f q s above) in (
      λ h. (combined_scaled (moved f points) s.by q s.above).0 (subst (IsInnerCombination (moved f points)) s.is (combined_moved f points s.point (combined.0 (inside.1 (subst (IsInside (moved_mesh f mesh)) (sym s.is) ((inside_scaled (moved_mesh f mesh) s.by q s.above).1 h)))))),
      λ c. (inside_scaled (moved_mesh f mesh) s.by q s.above).0 (subst (IsInside (moved_mesh f mesh)) s.is (inside.0 (combined.1 (combined_before f points s.point regular (subst (IsInnerCombination (moved f points)) (sym s.is) ((combined_scaled (moved f points) s.by q s.above).1 c)))))),
    )

pub moved_is_hull : (mesh : Mesh) (f : Affine) → IsShape mesh → (determinant_of f ≡ pos 0 → ⊥) → IsHullOfItsPoints mesh → IsHullOfItsPoints (moved_mesh f mesh)
moved_is_hull mesh f shape regular hull = record { inside = moved_inside mesh f mesh.points shape regular hull.inside }

-- ---- the points of the faces
moved_face : (f : Affine) (points : List (List ℤ)) (face : List ℕ) → AllByRecursion (λ i. i < length points) face → map (λ i. get_or (moved f points) i []) face ≡ moved f (map (λ i. get_or points i []) face)
moved_face f points [] h = refl
moved_face f points (i ∷ face) h = ap₂ ◌∷◌ (get_or-map (λ p. coordinate_list (image f (point_at p))) points i [] [] h.0) (moved_face f points face h.1)

moved_parts : (f : Affine) (points : List (List ℤ)) (faces : List (List ℕ)) → AllByRecursion (λ face. All (λ i. i < length points) face) faces → flat_map (λ face. map (λ i. get_or (moved f points) i []) face) faces ≡ moved f (flat_map (λ face. map (λ i. get_or points i []) face) faces)
moved_parts f points [] h = refl
moved_parts f points (face ∷ faces) h =
    ap₂ ◌++◌ (moved_face f points face (recursion_from_All (λ i. i < length points) face h.0)) (moved_parts f points faces h.1)
    ∙ sym (map-append (λ p. coordinate_list (image f (point_at p))) (map (λ i. get_or points i []) face) (flat_map (λ g. map (λ i. get_or points i []) g) faces))

there : (mesh : Mesh) → IsShape mesh → All (λ face. All (λ i. i < length mesh.points) face) mesh.faces
there mesh shape = λ k d lt. (shape.faces k d lt).there

pub moved_face_points : (mesh : Mesh) (f : Affine) → IsShape mesh → corner_points (moved_mesh f mesh) ≡ moved f (corner_points mesh)
moved_face_points mesh f shape = moved_parts f mesh.points mesh.faces (recursion_from_All (λ face. All (λ i. i < length mesh.points) face) mesh.faces (there mesh shape))

pub moved_is_hull_of_faces : (mesh : Mesh) (f : Affine) → IsShape mesh → (determinant_of f ≡ pos 0 → ⊥) → IsHullOfItsCorners mesh → IsHullOfItsCorners (moved_mesh f mesh)
moved_is_hull_of_faces mesh f shape regular hull = record {
  inside = λ q above. subst (λ (points : List (List ℤ)). IsInside (moved_mesh f mesh) q ↔ IsInnerCombination points q) (sym (moved_face_points mesh f shape)) (moved_inside mesh f (corner_points mesh) shape regular hull.inside q above);
}
