-- What the tests of triples and planes say.
use Rattle.std.proofs.Common.{◌≡◌, ◌⊎◌, inl, inr, Bool, true, false, not, ◌||◌, List, [], ◌∷◌, refl, sym, arith, ℤ, pos, ◌≤ℤ◌, int_le, int_eq, ℕ, All, true≢false}
use Rattle.std.specs.List.{AllByRecursion, list_all}
use Rattle.std.proofs.lemmas.Bool.{and_from, and_parts, or_cases, or_left, or_right}
use Rattle.std.proofs.lemmas.Bool.Decides.{Decides-int_eq}
use Rattle.std.proofs.lemmas.Int.{ints}
use Rattle.std.proofs.lemmas.List.Elements.{All-from_recursion, recursion_from_All}
use Rattle.plane_predicate.specs.Space.{Coefficients, point_at, value, opposite_of, AreCollinear}
use Rattle.primitives.specs.Shapes.{mesh_point, value_at_point}
use Rattle.scad_hull.specs.Hulls.{is_directed, has_none_ahead, is_supporting, plane_of, shares_plane}
use Rattle.scad_hull.proofs.lemmas.Lines.{plane}

pub le_true : (x y : ℤ) → int_le x y ≡ true → x ≤ℤ y
le_true x y h = grind (arith, ints)

pub true_le : (x y : ℤ) → x ≤ℤ y → int_le x y ≡ true
true_le x y h = grind (arith, ints)

pub all_true : {X : Type 0} (test : X → Bool) (xs : List X) → list_all test xs ≡ true → AllByRecursion (λ x. test x ≡ true) xs
all_true test [] h = tt
all_true test (x ∷ xs) h = let parts = and_parts (test x) (list_all test xs) h in (parts.0, all_true test xs parts.1)

pub true_all : {X : Type 0} (test : X → Bool) (xs : List X) → AllByRecursion (λ x. test x ≡ true) xs → list_all test xs ≡ true
true_all test [] h = refl
true_all test (x ∷ xs) h = and_from (test x) (list_all test xs) h.0 (true_all test xs h.1)

weaker : {X : Type 0} (P Q : X → Type 0) → ((x : X) → P x → Q x) → (xs : List X) → AllByRecursion P xs → AllByRecursion Q xs
weaker P Q f [] h = tt
weaker P Q f (x ∷ xs) h = (f x h.0, weaker P Q f xs h.1)

-- ---- planes
pub none_ahead : (points : List (List ℤ)) (m : Coefficients) → has_none_ahead points m ≡ true → All (λ p. value m (point_at p) ≤ℤ pos 0) points
none_ahead points m h =
    All-from_recursion (λ p. value m (point_at p) ≤ℤ pos 0) points
    (weaker (λ p. int_le (value m (point_at p)) (pos 0) ≡ true) (λ p. value m (point_at p) ≤ℤ pos 0) (λ p. le_true (value m (point_at p)) (pos 0)) points (all_true (λ p. int_le (value m (point_at p)) (pos 0)) points h))

pub has_none : (points : List (List ℤ)) (m : Coefficients) → All (λ p. value m (point_at p) ≤ℤ pos 0) points → has_none_ahead points m ≡ true
has_none points m h =
    true_all (λ p. int_le (value m (point_at p)) (pos 0)) points
    (weaker (λ p. value m (point_at p) ≤ℤ pos 0) (λ p. int_le (value m (point_at p)) (pos 0) ≡ true) (λ p. true_le (value m (point_at p)) (pos 0)) points (recursion_from_All (λ p. value m (point_at p) ≤ℤ pos 0) points h))

eq_true : (x y : ℤ) → int_eq x y ≡ true → x ≡ y
eq_true x y h = (Decides-int_eq x y).0 h

true_eq : (x y : ℤ) → x ≡ y → int_eq x y ≡ true
true_eq x y h = (Decides-int_eq x y).1 h

not_true : (b : Bool) → not b ≡ true → b ≡ true → ⊥
not_true true h e = absurd (true≢false (sym h))
not_true false h e = absurd (true≢false (sym e))

true_not : (b : Bool) → (b ≡ true → ⊥) → not b ≡ true
true_not true h = absurd (h refl)
true_not false h = refl

-- a plane through three points has a direction just where they aren't on one line
pub directed : (points : List (List ℤ)) (i j k : ℕ) → is_directed (plane points i j k) ≡ true → AreCollinear (mesh_point points i) (mesh_point points j) (mesh_point points k) → ⊥
directed points i j k h c = not_true _ h (and_from _ _ (true_eq _ _ c.a) (and_from _ _ (true_eq _ _ c.b) (true_eq _ _ c.c)))

pub has_one : (points : List (List ℤ)) (i j k : ℕ) → (AreCollinear (mesh_point points i) (mesh_point points j) (mesh_point points k) → ⊥) → is_directed (plane points i j k) ≡ true
has_one points i j k apart =
    true_not _ (λ e.
    let parts = and_parts _ _ e in
    let more = and_parts _ _ parts.1 in
    apart (record { a = eq_true _ _ parts.0; b = eq_true _ _ more.0; c = eq_true _ _ more.1 }))

-- ---- triples
abbrev pub triple : ℕ → ℕ → ℕ → List ℕ
triple i j k = i ∷ j ∷ k ∷ []

-- the plane goes through the three points
pub record Holds (points : List (List ℤ)) (m : Coefficients) (i j k : ℕ) : Type 0 where
  pub first : value_at_point points m i ≡ pos 0
  pub second : value_at_point points m j ≡ pos 0
  pub third : value_at_point points m k ≡ pos 0

pub shared : (points : List (List ℤ)) (s : List ℕ) (i j k : ℕ) → shares_plane points s (triple i j k) ≡ true → Holds points (plane_of points s) i j k
shared points s i j k h =
    let one = and_parts _ _ h in
    let two = and_parts _ _ one.1 in
    let three = and_parts _ _ two.1 in
    record { first = eq_true _ _ one.0; second = eq_true _ _ two.0; third = eq_true _ _ three.0 }

pub shares : (points : List (List ℤ)) (s : List ℕ) (i j k : ℕ) → Holds points (plane_of points s) i j k → shares_plane points s (triple i j k) ≡ true
shares points s i j k h = and_from _ _ (true_eq _ _ h.first) (and_from _ _ (true_eq _ _ h.second) (and_from _ _ (true_eq _ _ h.third) refl))

-- a plane through three points that aren't on one line, with no point ahead
pub record Supports (points : List (List ℤ)) (i j k : ℕ) : Type 0 where
  pub apart : AreCollinear (mesh_point points i) (mesh_point points j) (mesh_point points k) → ⊥
  pub side : All (λ p. value (plane points i j k) (point_at p) ≤ℤ pos 0) points ⊎ All (λ p. value (opposite_of (plane points i j k)) (point_at p) ≤ℤ pos 0) points

pub supports : (points : List (List ℤ)) (i j k : ℕ) → is_supporting points (triple i j k) ≡ true → Supports points i j k
supports points i j k h =
    let m = plane points i j k in
    let parts = and_parts (is_directed m) (has_none_ahead points m || has_none_ahead points (opposite_of m)) h in
    record {
      apart = directed points i j k parts.0;
      side = elim (or_cases (has_none_ahead points m) (has_none_ahead points (opposite_of m)) parts.1) [
        | inl this ↦ inl (none_ahead points m this)
        | inr other ↦ inr (none_ahead points (opposite_of m) other)
      ];
    }

pub is_support : (points : List (List ℤ)) (i j k : ℕ) → Supports points i j k → is_supporting points (triple i j k) ≡ true
is_support points i j k s =
    let m = plane points i j k in
    and_from (is_directed m) (has_none_ahead points m || has_none_ahead points (opposite_of m)) (has_one points i j k s.apart)
    (elim s.side [
      | inl this ↦ or_left (has_none_ahead points m) (has_none_ahead points (opposite_of m)) (has_none points m this)
      | inr other ↦ or_right (has_none_ahead points m) (has_none_ahead points (opposite_of m)) (has_none points (opposite_of m) other)
    ])
