-- Farkas' alternative, after Bartl: a vector is a combination of others with weights of at least 0, or a plane keeps it apart.
use Rattle.std.proofs.Common.{◌≡◌, ◌⊎◌, inl, inr, List, [], ◌∷◌, length, map, refl, sym, ap, ap₂, ◌∙◌, arith, ℤ, pos, negsuc, ◌+ℤ◌, ◌-ℤ◌, ◌*ℤ◌, ◌<ℤ◌, ◌≤ℤ◌, suc}
use Rattle.std.specs.List.{AllByRecursion}
use Rattle.plane_predicate.specs.Space.{Coefficients, Coordinates, value}
use Rattle.plane_predicate.proofs.lemmas.IntegerRing.{sums, mul_comm_ℤ, zero_mul, one_mul}
use Rattle.plane_predicate.proofs.lemmas.Polynomials.{var, num, plus, times, minus, ring}
use Rattle.plane_predicate.proofs.lemmas.Signs.{signs, pos_pos, least_least, least_most}
use Rattle.plane_predicate.proofs.lemmas.Vectors.{form, place, of_plane, of_point, valueP}
use Rattle.scad_hull.specs.Combinations.{weighted_sum}

-- s m - t n
abbrev pub plane_less : ℤ → Coefficients → ℤ → Coefficients → Coefficients
plane_less s m t n = record { a = s *ℤ m.a -ℤ t *ℤ n.a; b = s *ℤ m.b -ℤ t *ℤ n.b; c = s *ℤ m.c -ℤ t *ℤ n.c; d = s *ℤ m.d -ℤ t *ℤ n.d }

abbrev pub point_less : ℤ → Coordinates → ℤ → Coordinates → Coordinates
point_less s p t q = record { x = s *ℤ p.x -ℤ t *ℤ q.x; y = s *ℤ p.y -ℤ t *ℤ q.y; z = s *ℤ p.z -ℤ t *ℤ q.z; w = s *ℤ p.w -ℤ t *ℤ q.w }

pub value_plane_less : (s : ℤ) (m : Coefficients) (t : ℤ) (n : Coefficients) (p : Coordinates) → value (plane_less s m t n) p ≡ s *ℤ value m p -ℤ t *ℤ value n p
value_plane_less s m t n p =
    ring (of_plane m (of_plane n (of_point p (s ∷ t ∷ []))))
    (valueP (record { a = minus (times (var 12) (var 0)) (times (var 13) (var 4)); b = minus (times (var 12) (var 1)) (times (var 13) (var 5)); c = minus (times (var 12) (var 2)) (times (var 13) (var 6)); d = minus (times (var 12) (var 3)) (times (var 13) (var 7)) }) (place 8))
    (minus (times (var 12) (valueP (form 0) (place 8))) (times (var 13) (valueP (form 4) (place 8)))) refl

pub value_point_less : (m : Coefficients) (s : ℤ) (p : Coordinates) (t : ℤ) (q : Coordinates) → value m (point_less s p t q) ≡ s *ℤ value m p -ℤ t *ℤ value m q
value_point_less m s p t q =
    ring (of_plane m (of_point p (of_point q (s ∷ t ∷ []))))
    (valueP (form 0) (record { x = minus (times (var 12) (var 4)) (times (var 13) (var 8)); y = minus (times (var 12) (var 5)) (times (var 13) (var 9)); z = minus (times (var 12) (var 6)) (times (var 13) (var 10)); w = minus (times (var 12) (var 7)) (times (var 13) (var 11)) }))
    (minus (times (var 12) (valueP (form 0) (place 4))) (times (var 13) (valueP (form 0) (place 8)))) refl

-- ---- sums with weights
abbrev pub AreLeast : List ℤ → Type 0
AreLeast weights = AllByRecursion (λ l. pos 0 ≤ℤ l) weights

pub weighted_scaled : (s : ℤ) (weights numbers : List ℤ) → weighted_sum (map (λ l. s *ℤ l) weights) numbers ≡ s *ℤ weighted_sum weights numbers
weighted_scaled s [] numbers = sym (mul_comm_ℤ s (pos 0) ∙ zero_mul s)
weighted_scaled s (l ∷ weights) [] = sym (mul_comm_ℤ s (pos 0) ∙ zero_mul s)
weighted_scaled s (l ∷ weights) (x ∷ numbers) =
    ap (λ (z : ℤ). (s *ℤ l) *ℤ x +ℤ z) (weighted_scaled s weights numbers)
    ∙ ring (s ∷ l ∷ x ∷ weighted_sum weights numbers ∷ []) (plus (times (times (var 0) (var 1)) (var 2)) (times (var 0) (var 3))) (times (var 0) (plus (times (var 1) (var 2)) (var 3))) refl

one_part : (s c l f h u v : ℤ) → l *ℤ (s *ℤ f -ℤ h *ℤ c) +ℤ (s *ℤ u -ℤ v *ℤ c) ≡ s *ℤ (l *ℤ f +ℤ u) -ℤ (l *ℤ h +ℤ v) *ℤ c
one_part s c l f h u v =
    ring (s ∷ c ∷ l ∷ f ∷ h ∷ u ∷ v ∷ [])
    (plus (times (var 2) (minus (times (var 0) (var 3)) (times (var 4) (var 1)))) (minus (times (var 0) (var 5)) (times (var 6) (var 1))))
    (minus (times (var 0) (plus (times (var 2) (var 3)) (var 5))) (times (plus (times (var 2) (var 4)) (var 6)) (var 1))) refl

no_parts : (s c : ℤ) → pos 0 ≡ s *ℤ pos 0 -ℤ pos 0 *ℤ c
no_parts s c = ring (s ∷ c ∷ []) (num (pos 0)) (minus (times (var 0) (num (pos 0))) (times (num (pos 0)) (var 1))) refl

-- a sum of differences, by its two parts
pub weighted_parts : {X : Type 0} (s c : ℤ) (k f h : X → ℤ) → ((x : X) → k x ≡ s *ℤ f x -ℤ h x *ℤ c) → (weights : List ℤ) (xs : List X) → weighted_sum weights (map k xs) ≡ s *ℤ weighted_sum weights (map f xs) -ℤ weighted_sum weights (map h xs) *ℤ c
weighted_parts s c k f h e [] xs = no_parts s c
weighted_parts s c k f h e (l ∷ weights) [] = no_parts s c
weighted_parts s c k f h e (l ∷ weights) (x ∷ xs) =
    ap₂ (λ (u v : ℤ). l *ℤ u +ℤ v) (e x) (weighted_parts s c k f h e weights xs)
    ∙ one_part s c l (f x) (h x) (weighted_sum weights (map f xs)) (weighted_sum weights (map h xs))

most_sum : (x y : ℤ) → x ≤ℤ pos 0 → y ≤ℤ pos 0 → (x +ℤ y) ≤ℤ pos 0
most_sum x y h k = omega (arith, sums)

-- a sum of numbers that are at most 0
pub weighted_most : {X : Type 0} (f : X → ℤ) (weights : List ℤ) (xs : List X) → AreLeast weights → AllByRecursion (λ x. f x ≤ℤ pos 0) xs → weighted_sum weights (map f xs) ≤ℤ pos 0
weighted_most f [] xs h k = omega (arith, sums)
weighted_most f (l ∷ weights) [] h k = omega (arith, sums)
weighted_most f (l ∷ weights) (x ∷ xs) h k = most_sum _ _ (least_most l (f x) h.0 k.0) (weighted_most f weights xs h.1 k.1)

pub scaled_least : (s : ℤ) → pos 0 <ℤ s → (weights : List ℤ) → AreLeast weights → AreLeast (map (λ l. s *ℤ l) weights)
scaled_least s above [] h = tt
scaled_least s above (l ∷ weights) h = (least_least s l (omega (arith, sums, above)) h.0, scaled_least s above weights h.1)

length_scaled : (s : ℤ) (weights : List ℤ) → length (map (λ l. s *ℤ l) weights) ≡ length weights
length_scaled s [] = refl
length_scaled s (l ∷ weights) = ap suc (length_scaled s weights)

-- ---- the alternative
-- b, taken some times, is the sum of the vectors, each times a weight of at least 0: as every plane sees it
pub record IsCombination (vs : List Coordinates) (g : Coordinates → Coordinates) (b : Coordinates) : Type 0 where
  pub weights : List ℤ
  pub one_each : length weights ≡ length vs
  pub least : AreLeast weights
  pub by : ℤ
  pub above : pos 0 <ℤ by
  pub sum : (m : Coefficients) → by *ℤ value m b ≡ weighted_sum weights (map (λ v. value m (g v)) vs)

-- a plane with no vector ahead, and b ahead
pub record IsApart (vs : List Coordinates) (g : Coordinates → Coordinates) (b : Coordinates) : Type 0 where
  pub plane : Coefficients
  pub most : AllByRecursion (λ v. value plane (g v) ≤ℤ pos 0) vs
  pub ahead : pos 0 <ℤ value plane b

abbrev pub Alternative : List Coordinates → (Coordinates → Coordinates) → Coordinates → Type 0
Alternative vs g b = IsCombination vs g b ⊎ IsApart vs g b

-- a vector is 0, or some plane has it ahead
pub record IsAhead (b : Coordinates) : Type 0 where
  pub plane : Coefficients
  pub ahead : pos 0 <ℤ value plane b

abbrev pub axis : ℤ → ℤ → ℤ → ℤ → Coefficients
axis a b c d = record { a = a; b = b; c = c; d = d }

pub at_x : (k x y z w : ℤ) → k *ℤ x +ℤ pos 0 *ℤ y +ℤ pos 0 *ℤ z -ℤ pos 0 *ℤ w ≡ k *ℤ x
at_x k x y z w = ring (k ∷ x ∷ y ∷ z ∷ w ∷ []) (minus (plus (plus (times (var 0) (var 1)) (times (num (pos 0)) (var 2))) (times (num (pos 0)) (var 3))) (times (num (pos 0)) (var 4))) (times (var 0) (var 1)) refl

pub at_y : (k x y z w : ℤ) → pos 0 *ℤ x +ℤ k *ℤ y +ℤ pos 0 *ℤ z -ℤ pos 0 *ℤ w ≡ k *ℤ y
at_y k x y z w = ring (k ∷ x ∷ y ∷ z ∷ w ∷ []) (minus (plus (plus (times (num (pos 0)) (var 1)) (times (var 0) (var 2))) (times (num (pos 0)) (var 3))) (times (num (pos 0)) (var 4))) (times (var 0) (var 2)) refl

pub at_z : (k x y z w : ℤ) → pos 0 *ℤ x +ℤ pos 0 *ℤ y +ℤ k *ℤ z -ℤ pos 0 *ℤ w ≡ k *ℤ z
at_z k x y z w = ring (k ∷ x ∷ y ∷ z ∷ w ∷ []) (minus (plus (plus (times (num (pos 0)) (var 1)) (times (num (pos 0)) (var 2))) (times (var 0) (var 3))) (times (num (pos 0)) (var 4))) (times (var 0) (var 3)) refl

pub at_w : (k x y z w : ℤ) → pos 0 *ℤ x +ℤ pos 0 *ℤ y +ℤ pos 0 *ℤ z -ℤ k *ℤ w ≡ pos 0 -ℤ k *ℤ w
at_w k x y z w = ring (k ∷ x ∷ y ∷ z ∷ w ∷ []) (minus (plus (plus (times (num (pos 0)) (var 1)) (times (num (pos 0)) (var 2))) (times (num (pos 0)) (var 3))) (times (var 0) (var 4))) (minus (num (pos 0)) (times (var 0) (var 4))) refl

minus_one : (x : ℤ) → negsuc 0 *ℤ x ≡ pos 0 -ℤ x
minus_one x = ring (x ∷ []) (times (num (negsuc 0)) (var 0)) (minus (num (pos 0)) (var 0)) refl

-- a number that isn't 0 is above 0, itself or times -1
seen : (x : ℤ) → (x ≡ pos 0) ⊎ ((k : ℤ) × (pos 0 <ℤ (k *ℤ x)))
seen x = elim (signs x) [
  | inl below ↦ inr (negsuc 0, omega (arith, sums, minus_one x, below))
  | inr other ↦ elim other [ inl none ↦ inl none | inr above ↦ inr (pos 1, omega (arith, sums, one_mul x, above)) ]
]

nothing : (m : Coefficients) (x y z w : ℤ) → x ≡ pos 0 → y ≡ pos 0 → z ≡ pos 0 → w ≡ pos 0 → m.a *ℤ x +ℤ m.b *ℤ y +ℤ m.c *ℤ z -ℤ m.d *ℤ w ≡ pos 0
nothing m x y z w ex ey ez ew = rw (ex, ey, ez, ew) (ring (of_plane m []) (minus (plus (plus (times (var 0) (num (pos 0))) (times (var 1) (num (pos 0)))) (times (var 2) (num (pos 0)))) (times (var 3) (num (pos 0)))) (num (pos 0)) refl)

seen_w : (b : Coordinates) → b.x ≡ pos 0 → b.y ≡ pos 0 → b.z ≡ pos 0 → ((m : Coefficients) → value m b ≡ pos 0) ⊎ IsAhead b
seen_w b ex ey ez = elim (seen b.w) [
  | inl none ↦ inl (λ m. nothing m b.x b.y b.z b.w ex ey ez none)
  | inr some ↦ inr (record { plane = axis (pos 0) (pos 0) (pos 0) (pos 0 -ℤ some.0); ahead = omega (arith, sums, at_w (pos 0 -ℤ some.0) b.x b.y b.z b.w, ring (some.0 ∷ b.w ∷ []) (minus (num (pos 0)) (times (minus (num (pos 0)) (var 0)) (var 1))) (times (var 0) (var 1)) refl, some.1) })
]

pub zero_or_ahead : (b : Coordinates) → ((m : Coefficients) → value m b ≡ pos 0) ⊎ IsAhead b
zero_or_ahead b = elim (seen b.x) [
  | inr some ↦ inr (record { plane = axis some.0 (pos 0) (pos 0) (pos 0); ahead = omega (arith, sums, at_x some.0 b.x b.y b.z b.w, some.1) })
  | inl ex ↦ elim (seen b.y) [
    | inr some ↦ inr (record { plane = axis (pos 0) some.0 (pos 0) (pos 0); ahead = omega (arith, sums, at_y some.0 b.x b.y b.z b.w, some.1) })
    | inl ey ↦ elim (seen b.z) [
      | inr some ↦ inr (record { plane = axis (pos 0) (pos 0) some.0 (pos 0); ahead = omega (arith, sums, at_z some.0 b.x b.y b.z b.w, some.1) })
      | inl ez ↦ seen_w b ex ey ez
    ]
  ]
]

none_first : (a y : ℤ) (weights numbers : List ℤ) (w : ℤ) → w ≡ weighted_sum weights numbers → w ≡ pos 0 *ℤ a +ℤ weighted_sum weights numbers
none_first a y weights numbers w e = omega (arith, sums, zero_mul a, e)

-- the weights of the rest do, with 0 for the first vector
rest_combination : (v : Coordinates) (vs : List Coordinates) (g : Coordinates → Coordinates) (b : Coordinates) → IsCombination vs g b → IsCombination (v ∷ vs) g b
rest_combination v vs g b c = record {
  weights = pos 0 ∷ c.weights;
  one_each = ap suc c.one_each;
  least = (omega (arith, sums), c.least);
  by = c.by;
  above = c.above;
  sum = λ m. none_first (value m (g v)) (pos 0) c.weights (map (λ u. value m (g u)) vs) (c.by *ℤ value m b) (c.sum m);
}

-- u (s b - t a) = s w - h a gives (u s) b = (u t - h) a + s w
gathered : (u s b t a w h : ℤ) → u *ℤ (s *ℤ b -ℤ t *ℤ a) ≡ s *ℤ w -ℤ h *ℤ a → (u *ℤ s) *ℤ b ≡ (u *ℤ t -ℤ h) *ℤ a +ℤ s *ℤ w
gathered u s b t a w h e =
    omega (
      arith,
      sums,
      e,
      ring (u ∷ s ∷ b ∷ t ∷ a ∷ []) (times (var 0) (minus (times (var 1) (var 2)) (times (var 3) (var 4)))) (minus (times (times (var 0) (var 1)) (var 2)) (times (times (var 0) (var 3)) (var 4))) refl,
      ring (u ∷ t ∷ h ∷ a ∷ []) (times (minus (times (var 0) (var 1)) (var 2)) (var 3)) (minus (times (times (var 0) (var 1)) (var 3)) (times (var 2) (var 3))) refl,
    )

-- a vector, less the part of it along another one, by a plane that sees both
abbrev pub lessened : Coefficients → Coordinates → Coordinates → Coordinates
lessened x a u = point_less (value x a) u (value x u) a

seen_lessened : (m x : Coefficients) (a u : Coordinates) → value m (lessened x a u) ≡ value x a *ℤ value m u -ℤ value x u *ℤ value m a
seen_lessened m x a u = value_point_less m (value x a) u (value x u) a

-- the weights of the lessened vectors
lessened_combination : (v : Coordinates) (vs : List Coordinates) (g : Coordinates → Coordinates) (b : Coordinates) (x : Coefficients) → AllByRecursion (λ u. value x (g u) ≤ℤ pos 0) vs → pos 0 <ℤ value x b → pos 0 <ℤ value x (g v) →
    IsCombination vs (λ u. lessened x (g v) (g u)) (lessened x (g v) b) → IsCombination (v ∷ vs) g b
lessened_combination v vs g b x most ahead above c =
    let s = value x (g v) in
    let h = weighted_sum c.weights (map (λ u. value x (g u)) vs) in
    record {
      weights = (c.by *ℤ value x b -ℤ h) ∷ map (λ l. s *ℤ l) c.weights;
      one_each = ap suc (length_scaled s c.weights ∙ c.one_each);
      least = (omega (arith, sums, pos_pos c.by (value x b) c.above ahead, weighted_most (λ u. value x (g u)) c.weights vs c.least most), scaled_least s above c.weights c.least);
      by = c.by *ℤ s;
      above = pos_pos c.by s c.above above;
      sum = λ m.
          gathered c.by s (value m b) (value x b) (value m (g v)) (weighted_sum c.weights (map (λ u. value m (g u)) vs)) h
          (ap (λ (z : ℤ). c.by *ℤ z) (sym (seen_lessened m x (g v) b)) ∙ c.sum m
          ∙ weighted_parts s (value m (g v)) (λ u. value m (lessened x (g v) (g u))) (λ u. value m (g u)) (λ u. value x (g u)) (λ u. seen_lessened m x (g v) (g u)) c.weights vs)
          ∙ ap (λ (z : ℤ). (c.by *ℤ value x b -ℤ h) *ℤ value m (g v) +ℤ z) (sym (weighted_scaled s c.weights (map (λ u. value m (g u)) vs)));
    }

map_all : {X : Type 0} (P Q : X → Type 0) → ((x : X) → P x → Q x) → (xs : List X) → AllByRecursion P xs → AllByRecursion Q xs
map_all P Q f [] h = tt
map_all P Q f (x ∷ xs) h = (f x h.0, map_all P Q f xs h.1)

-- the plane that keeps the lessened vectors apart, turned until the first vector is on it
turned_plane : (x k : Coefficients) (a u : Coordinates) → value (plane_less (value x a) k (value k a) x) u ≡ value k (lessened x a u)
turned_plane x k a u =
    value_plane_less (value x a) k (value k a) x u
    ∙ ring (value x a ∷ value k u ∷ value k a ∷ value x u ∷ []) (minus (times (var 0) (var 1)) (times (var 2) (var 3))) (minus (times (var 0) (var 1)) (times (var 3) (var 2))) refl
    ∙ sym (seen_lessened k x a u)

none_left : (x k : Coefficients) (a : Coordinates) → value (plane_less (value x a) k (value k a) x) a ≡ pos 0
none_left x k a =
    value_plane_less (value x a) k (value k a) x a
    ∙ ring (value x a ∷ value k a ∷ []) (minus (times (var 0) (var 1)) (times (var 1) (var 0))) (num (pos 0)) refl

most_by : (x y : ℤ) → x ≡ y → y ≤ℤ pos 0 → x ≤ℤ pos 0
most_by x y e h = omega (arith, sums, e, h)

ahead_by : (x y : ℤ) → x ≡ y → pos 0 <ℤ y → pos 0 <ℤ x
ahead_by x y e h = omega (arith, sums, e, h)

lessened_apart : (v : Coordinates) (vs : List Coordinates) (g : Coordinates → Coordinates) (b : Coordinates) (x : Coefficients) → IsApart vs (λ u. lessened x (g v) (g u)) (lessened x (g v) b) → IsApart (v ∷ vs) g b
lessened_apart v vs g b x k = record {
  plane = plane_less (value x (g v)) k.plane (value k.plane (g v)) x;
  most = (
    most_by _ (pos 0) (none_left x k.plane (g v)) (omega (arith, sums)),
    map_all (λ u. value k.plane (lessened x (g v) (g u)) ≤ℤ pos 0) (λ u. value (plane_less (value x (g v)) k.plane (value k.plane (g v)) x) (g u) ≤ℤ pos 0) (λ u h. most_by _ _ (turned_plane x k.plane (g v) (g u)) h) vs k.most,
  );
  ahead = ahead_by _ _ (turned_plane x k.plane (g v) b) k.ahead;
}

with_first : (v : Coordinates) (vs : List Coordinates) (g : Coordinates → Coordinates) (b : Coordinates) → Alternative vs g b → ((x : Coefficients) → Alternative vs (λ u. lessened x (g v) (g u)) (lessened x (g v) b)) → Alternative (v ∷ vs) g b
with_first v vs g b (inl c) more = inl (rest_combination v vs g b c)
with_first v vs g b (inr k) more = elim (signs (value k.plane (g v))) [
  | inl below ↦ inr (record { plane = k.plane; most = (omega (arith, sums, below), k.most); ahead = k.ahead })
  | inr other ↦ elim other [
    | inl on ↦ inr (record { plane = k.plane; most = (omega (arith, sums, on), k.most); ahead = k.ahead })
    | inr above ↦ elim (more k.plane) [
      | inl c ↦ inl (lessened_combination v vs g b k.plane k.most k.ahead above c)
      | inr apart ↦ inr (lessened_apart v vs g b k.plane apart)
    ]
  ]
]

pub alternative : (vs : List Coordinates) (g : Coordinates → Coordinates) (b : Coordinates) → Alternative vs g b
alternative [] g b = elim (zero_or_ahead b) [
  | inl none ↦ inl (record { weights = []; one_each = refl; least = tt; by = pos 1; above = omega (arith, sums); sum = λ m. one_mul (value m b) ∙ none m })
  | inr some ↦ inr (record { plane = some.plane; most = tt; ahead = some.ahead })
]
alternative (v ∷ vs) g b = with_first v vs g b (alternative vs g b) (λ x. alternative vs (λ u. lessened x (g v) (g u)) (lessened x (g v) b))
