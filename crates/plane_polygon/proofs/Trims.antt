-- A polygon trimmed to what is not ahead of a plane.
use Rattle.std.proofs.Common.{◌≡◌, ◌↔◌, inl, inr, ℕ, zero, suc, ◌<◌, Bool, true, false, ◌||◌, [], ◌∷◌, map, refl, sym, ap, ◌∙◌, arith, ℤ, pos, neg_ℤ, ◌<ℤ◌, ◌≤ℤ◌, int_lt}
use Rattle.std.proofs.lemmas.List.{map-append}
use Rattle.std.proofs.lemmas.Int.{ints}
use Rattle.plane_predicate.specs.Space.{Coefficients, Coordinates, value, opposite_of}
use Rattle.plane_predicate.proofs.lemmas.IntegerRing.{sums}
use Rattle.plane_predicate.proofs.lemmas.Vectors.{value-opposite}
use Rattle.plane_polygon.specs.Polygons.{Outline, edge_count, corner, IsPolygon, Covers}
use Rattle.plane_polygon.specs.Parts.{corners, some_of, is_behind, is_ahead, class_by_sides, class_of}
use Rattle.plane_polygon.specs.Boxes.{trimmed_outline, outline_trimmed_to}
use Rattle.plane_polygon.specs.declared.classes.Class.{Class}
use Rattle.plane_polygon.specs.declared.classes.Class.TheVariants.{Behind, Ahead, On, Across}
use Rattle.plane_polygon.proofs.lemmas.CornerSides.{some_more}
use Rattle.plane_polygon.proofs.lemmas.Hull.{hull}
use Rattle.plane_polygon.proofs.lemmas.Rounds.{at_most}
use Rattle.plane_polygon.proofs.lemmas.Parts.{behind_polygon, behind_points}
use Rattle.plane_polygon.proofs.lemmas.PartCovers.{between_within}
use Rattle.plane_predicate.specs.Indices.{indices_below}

-- ---- a test that no corner passes
neither : (x y : Bool) → (x || y) ≡ false → (x ≡ false) × (y ≡ false)
neither true y e = cc
neither false y e = (refl, e)

none_of : (p : Coordinates → Bool) (f : ℕ → Coordinates) (n : ℕ) → some_of p (map f (indices_below n)) ≡ false → (i : ℕ) → i < n → p (f i) ≡ false
none_of p f zero h i l = absurd (omega arith)
none_of p f (suc n) h i l =
    let both = neither (some_of p (map f (indices_below n))) (p (f n)) (sym (some_more p (map f (indices_below n)) (f n)) ∙ ap (some_of p) (sym (map-append f (indices_below n) (n ∷ []))) ∙ h) in
    elim (at_most i n (omega arith)) [ inl e ↦ ap (λ (k : ℕ). p (f k)) e ∙ both.1 | inr b ↦ none_of p f n both.0 i b ]

not_ahead : (x : ℤ) → int_lt (pos 0) x ≡ false → x ≤ℤ pos 0
not_ahead x h = omega (arith, ints)

not_behind : (x : ℤ) → int_lt x (pos 0) ≡ false → pos 0 ≤ℤ x
not_behind x h = omega (arith, ints)

-- no point of a polygon lies strictly where no corner does
none_ahead : (s : Outline) (m : Coefficients) → IsPolygon s → some_of (is_ahead m) (corners s) ≡ false → (p : Coordinates) → Covers s p → value m p ≤ℤ pos 0
none_ahead s m h e p c =
    let w = hull s h p c in
    let at = λ (i : ℕ) (l : i < edge_count s). not_ahead (value m (corner s i)) (none_of (is_ahead m) (corner s) (edge_count s) e i l) in
    between_within (corner s 0) (corner s w.0) (corner s (suc w.0)) p m w.2 (at 0 (omega arith)) (at w.0 (omega arith)) (at (suc w.0) (omega arith))

flipped : (x y : ℤ) → y ≡ neg_ℤ x → pos 0 ≤ℤ x → y ≤ℤ pos 0
flipped x y e h = omega (arith, sums)

none_behind : (s : Outline) (m : Coefficients) → IsPolygon s → some_of (is_behind m) (corners s) ≡ false → (p : Coordinates) → Covers s p → value (opposite_of m) p ≤ℤ pos 0
none_behind s m h e p c =
    let w = hull s h p c in
    let at = λ (i : ℕ) (l : i < edge_count s). flipped (value m (corner s i)) (value (opposite_of m) (corner s i)) (value-opposite m (corner s i)) (not_behind (value m (corner s i)) (none_of (is_behind m) (corner s) (edge_count s) e i l)) in
    between_within (corner s 0) (corner s w.0) (corner s (suc w.0)) p (opposite_of m) w.2 (at 0 (omega arith)) (at w.0 (omega arith)) (at (suc w.0) (omega arith))

-- ---- classes
behind_by : (x y : Bool) → class_by_sides x y ≡ Behind → y ≡ false
behind_by true true e = cc
behind_by true false e = refl
behind_by false true e = cc
behind_by false false e = cc

on_by : (x y : Bool) → class_by_sides x y ≡ On → y ≡ false
on_by true true e = cc
on_by true false e = cc
on_by false true e = cc
on_by false false e = refl

ahead_by : (x y : Bool) → class_by_sides x y ≡ Ahead → x ≡ false
ahead_by true true e = cc
ahead_by true false e = cc
ahead_by false true e = refl
ahead_by false false e = cc

opposed : (x y : ℤ) → y ≡ neg_ℤ x → y ≤ℤ pos 0 → x <ℤ pos 0 → ⊥
opposed x y e h k = omega (arith, sums)

-- ---- trimming
pub record Trims (s t : Outline) (m : Coefficients) : Type 0 where
  pub polygon : IsPolygon t
  pub points : (p : Coordinates) → Covers t p ↔ (Covers s p × (value m p ≤ℤ pos 0))

unchanged : (s : Outline) (m : Coefficients) → IsPolygon s → some_of (is_ahead m) (corners s) ≡ false → Trims s s m
unchanged s m h e = record { polygon = h; points = λ p. (λ c. (c, none_ahead s m h e p c), λ (c, b). c) }

trim_case : (s : Outline) (m : Coefficients) → IsPolygon s → (q : Coordinates) → Covers s q → value m q <ℤ pos 0 → (k : Class) → class_of s m ≡ k → Trims s (outline_trimmed_to k s m) m
trim_case s m h q c b Across e = record { polygon = behind_polygon s m h e; points = behind_points s m h e }
trim_case s m h q c b Behind e = unchanged s m h (behind_by (some_of (is_behind m) (corners s)) (some_of (is_ahead m) (corners s)) e)
trim_case s m h q c b On e = unchanged s m h (on_by (some_of (is_behind m) (corners s)) (some_of (is_ahead m) (corners s)) e)
trim_case s m h q c b Ahead e = absurd (opposed (value m q) (value (opposite_of m) q) (value-opposite m q) (none_behind s m h (ahead_by (some_of (is_behind m) (corners s)) (some_of (is_ahead m) (corners s)) e) q c) b)

-- where some point of a polygon is strictly behind m
pub trims : (s : Outline) (m : Coefficients) → IsPolygon s → (q : Coordinates) → Covers s q → value m q <ℤ pos 0 → Trims s (trimmed_outline s m) m
trims s m h q c b = trim_case s m h q c b (class_of s m) refl
