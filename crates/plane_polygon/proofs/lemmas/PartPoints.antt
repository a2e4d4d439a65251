-- A plane that is across a polygon cuts it, and which points the part behind it has.
use Rattle.std.proofs.Common.{◌≡◌, ◌⊎◌, inl, inr, ℕ, zero, suc, ◌+◌, ◌-◌, ◌<◌, ◌≤◌, Bool, true, false, not, ◌||◌, List, [], ◌∷◌, ◌++◌, map, refl, sym, ap, ◌∙◌, subst, arith, ℤ, pos, ◌<ℤ◌, int_lt, add-zero, true≢false}
use Rattle.std.proofs.lemmas.List.{map-append}
use Rattle.std.proofs.lemmas.Int.{ints}
use Rattle.plane_predicate.specs.Space.{Coefficients, Coordinates, value}
use Rattle.plane_polygon.specs.Polygons.{Outline, edge_count, corner, IsPolygon}
use Rattle.plane_polygon.specs.declared.classes.Class.TheVariants.{Across}
use Rattle.plane_polygon.specs.Parts.{corners, some_of, is_behind, is_ahead, class_by_sides, class_of}
use Rattle.plane_polygon.proofs.lemmas.Rounds.{step, step_below, step_is, at_most, corner_from, no_alternation}
use Rattle.plane_polygon.proofs.lemmas.PartLists.{before_after, before_first}
use Rattle.plane_polygon.proofs.lemmas.PartPolygons.{Cut, below, not_below, at_most_or}
use Rattle.plane_predicate.specs.Indices.{indices_below}

-- ---- an index at which a test holds
either_left : (x : Bool) → (x || false) ≡ true → x ≡ true
either_left true h = refl
either_left false h = h

some_case : {P : Type 0} (x r s y : Bool) → (x || r) ≡ true → (r ≡ true → (s ≡ true) ⊎ P) → ((x || s) ≡ true) ⊎ P
some_case true r s y h f = inl refl
some_case false r s y h f = f h

some_append : {A : Type 0} (p : A → Bool) (xs : List A) (y : A) → some_of p (xs ++ y ∷ []) ≡ true → (some_of p xs ≡ true) ⊎ (p y ≡ true)
some_append p [] y h = inr (either_left (p y) h)
some_append p (x ∷ xs) y h = some_case (p x) (some_of p (xs ++ y ∷ [])) (some_of p xs) (p y) h (some_append p xs y)

pub some_index : (p : Coordinates → Bool) (f : ℕ → Coordinates) (n : ℕ) → some_of p (map f (indices_below n)) ≡ true → (i : ℕ) × (i < n) × (p (f i) ≡ true)
some_index p f zero h = absurd (true≢false (sym h))
some_index p f (suc n) h =
    elim (some_append p (map f (indices_below n)) (f n) (ap (some_of p) (sym (map-append f (indices_below n) (n ∷ []))) ∙ h)) [
      | inl k ↦ (let r = some_index p f n k in (r.0, omega arith, r.2))
      | inr k ↦ (n, omega arith, k)
    ]

both_sides : (x y : Bool) → class_by_sides x y ≡ Across → (x ≡ true) × (y ≡ true)
both_sides true true e = (refl, refl)
both_sides true false e = cc
both_sides false true e = cc
both_sides false false e = cc

-- ---- going round
pub reach : (k j i : ℕ) → j < k → i < k → (t : ℕ) × (t < k) × (step k j t ≡ i)
reach k j i hj hi =
    elim (at_most_or j i) [
      | inl b ↦ (i - j, omega arith, elim (step_is k j (i - j) hj (omega arith)) [ inl p ↦ omega arith | inr p ↦ absurd (omega arith) ])
      | inr b ↦ ((k - j) + i, omega arith, elim (step_is k j ((k - j) + i) hj (omega arith)) [ inl p ↦ absurd (omega arith) | inr p ↦ omega arith ])
    ]

-- where a test changes from false to true
switch_case : (f : ℕ → Bool) (m d : ℕ) → f m ≡ false → f (m + suc d) ≡ true → (b : Bool) → f (suc m) ≡ b → (f (suc m) ≡ false → (t : ℕ) × (suc m ≤ t) × (t < suc m + d) × (f t ≡ false) × (f (suc t) ≡ true)) →
    (t : ℕ) × (m ≤ t) × (t < m + suc d) × (f t ≡ false) × (f (suc t) ≡ true)
switch_case f m d h k true e g = (m, omega arith, omega arith, h, e)
switch_case f m d h k false e g = let r = g e in (r.0, omega arith, omega arith, r.3, r.4)

switch : (f : ℕ → Bool) (m d : ℕ) → f m ≡ false → f (m + d) ≡ true → (t : ℕ) × (m ≤ t) × (t < m + d) × (f t ≡ false) × (f (suc t) ≡ true)
switch f m zero h k = absurd (true≢false (sym k ∙ ap f (add-zero m) ∙ h))
switch f m (suc d) h k = switch_case f m d h k (f (suc m)) refl (λ g. switch f (suc m) d g (ap f (let e : suc m + d ≡ m + suc d = omega arith in e) ∙ k))

ahead_not_behind : (x : ℤ) → int_lt (pos 0) x ≡ true → int_lt x (pos 0) ≡ false
ahead_not_behind x h = grind (arith, ints)

ahead_above : (x : ℤ) → int_lt (pos 0) x ≡ true → pos 0 <ℤ x
ahead_above x h = omega (arith, ints)

not_true : (b : Bool) → not b ≡ false → b ≡ true
not_true true h = refl
not_true false h = absurd (true≢false h)

not_false : (b : Bool) → not b ≡ true → b ≡ false
not_false true h = absurd (true≢false (sym h))
not_false false h = refl

-- ---- the corners behind m stand together
together : (s : Outline) (m : Coefficients) (a v : ℕ) → IsPolygon s → a < edge_count s → suc v < edge_count s →
    is_behind m (corner_from s a 0) ≡ true → is_behind m (corner_from s a v) ≡ true → is_behind m (corner_from s a (suc v)) ≡ false → is_behind m (corner_from s a (edge_count s - 1)) ≡ false →
    (u : ℕ) → u < edge_count s → (b : Bool) → is_behind m (corner_from s a u) ≡ b → (u < suc v → b ≡ true) × (suc v ≤ u → b ≡ false)
together s m a v h ha hv first inside outside final u hu true e = (
  λ _. refl,
  λ past.
      elim (at_most (suc v) u past) [
        | inl w ↦ sym e ∙ ap (λ (i : ℕ). is_behind m (corner_from s a i)) (sym w) ∙ outside
        | inr w ↦ elim (at_most (suc u) (edge_count s) hu) [
          | inl z ↦ (let y : u ≡ edge_count s - 1 = omega arith in sym e ∙ ap (λ (i : ℕ). is_behind m (corner_from s a i)) y ∙ final)
          | inr z ↦ absurd (no_alternation s h a (suc v) u (edge_count s - 1) ha (omega arith) w (omega arith) (omega arith) m
              (below (value m (corner_from s a 0)) first) (not_below (value m (corner_from s a (suc v))) outside) (below (value m (corner_from s a u)) e) (not_below (value m (corner_from s a (edge_count s - 1))) final))
        ]
      ],
)
together s m a v h ha hv first inside outside final u hu false e = (
  λ early.
      elim (at_most u v (omega arith)) [
        | inl w ↦ sym e ∙ ap (λ (i : ℕ). is_behind m (corner_from s a i)) w ∙ inside
        | inr w ↦ elim (at_most 0 u (omega arith)) [
          | inl z ↦ sym e ∙ ap (λ (i : ℕ). is_behind m (corner_from s a i)) (sym z) ∙ first
          | inr z ↦ absurd (no_alternation s h a u v (edge_count s - 1) ha z w (omega arith) (omega arith) m
              (below (value m (corner_from s a 0)) first) (not_below (value m (corner_from s a u)) e) (below (value m (corner_from s a v)) inside) (not_below (value m (corner_from s a (edge_count s - 1))) final))
        ]
      ],
  λ _. refl,
)

-- a plane across a polygon cuts it
pub cut_of : (s : Outline) (m : Coefficients) → IsPolygon s → class_of s m ≡ Across → (a : ℕ) × (v : ℕ) × Cut s m a v
cut_of s m h e =
    let k = edge_count s in
    let both = both_sides (some_of (is_behind m) (corners s)) (some_of (is_ahead m) (corners s)) e in
    let i = some_index (is_behind m) (corner s) k both.0 in
    let j = some_index (is_ahead m) (corner s) k both.1 in
    let r = reach k j.0 i.0 j.1 i.1 in
    let f : ℕ → Bool = λ t. is_behind m (corner_from s j.0 t) in
    let d : 0 + r.0 ≡ r.0 = omega arith in
    let t = switch f 0 r.0 (ahead_not_behind (value m (corner s j.0)) j.2) (ap f d ∙ ap (λ (n : ℕ). is_behind m (corner s n)) r.2 ∙ i.2) in
    let a = step k j.0 (suc t.0) in
    let ha : a < k = step_below k j.0 (suc t.0) j.1 in
    let three = h.three in
    let last : suc (k - 1) ≡ k = omega arith in
    let before_a : step k a (k - 1) ≡ step k j.0 t.0 = sym (before_first k a (k - 1) ha last) ∙ before_after k (step k j.0 t.0) (step_below k j.0 t.0 j.1) in
    let final : is_behind m (corner_from s a (k - 1)) ≡ false = ap (λ (n : ℕ). is_behind m (corner s n)) before_a ∙ t.3 in
    let g : ℕ → Bool = λ u. not (is_behind m (corner_from s a u)) in
    let z : 0 + (k - 1) ≡ k - 1 = omega arith in
    let w = switch g 0 (k - 1) (ap not t.4) (ap g z ∙ ap not final) in
    let v = w.0 in
    let inside = not_true (is_behind m (corner_from s a v)) w.3 in
    let outside = not_false (is_behind m (corner_from s a (suc v))) w.4 in
    let hv : suc v < k = omega arith in
    let far = reach k a j.0 ha j.1 in (
      a,
      v,
      record {
        polygon = h;
        arc = record {
          start = ha;
          some = omega arith;
          not_all = hv;
          behind = λ u b. (together s m a v h ha hv t.4 inside outside final u (omega arith) (is_behind m (corner_from s a u)) refl).0 b;
          past = λ u b c. (together s m a v h ha hv t.4 inside outside final u c (is_behind m (corner_from s a u)) refl).1 b;
        };
        far = far.0;
        far_below = far.1;
        ahead = subst (λ (n : ℕ). pos 0 <ℤ value m (corner s n)) (sym far.2) (ahead_above (value m (corner s j.0)) j.2);
      },
    )
