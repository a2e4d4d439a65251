-- What holds of all members of lists that are made of others, and what is among them.
use Rattle.std.proofs.Common.{◌≡◌, ◌⊎◌, inl, inr, Bool, true, List, [], ◌∷◌, ◌++◌, length, get_or, map, filter, flat_map, refl, sym, ap, ◌∙◌, subst, arith, ℕ, zero, suc, ◌+◌, ◌-◌, ◌<◌, ◌≤◌, true≢false}
use Rattle.std.specs.List.{AllByRecursion, range_with_len}
use Rattle.std.proofs.lemmas.Bool.{cases_Bool, cases_lt, cond-true, cond-false}
use Rattle.scad_hull.specs.Hulls.{numbers_between}

-- ---- all members
pub all_append : {X : Type 0} (P : X → Type 0) (xs ys : List X) → AllByRecursion P xs → AllByRecursion P ys → AllByRecursion P (xs ++ ys)
all_append P [] ys h k = k
all_append P (x ∷ xs) ys h k = (h.0, all_append P xs ys h.1 k)

pub all_flat : {X Y : Type 0} (P : Y → Type 0) (f : X → List Y) (xs : List X) → AllByRecursion (λ x. AllByRecursion P (f x)) xs → AllByRecursion P (flat_map f xs)
all_flat P f [] h = tt
all_flat P f (x ∷ xs) h = all_append P (f x) (flat_map f xs) h.0 (all_flat P f xs h.1)

pub all_map : {X Y : Type 0} (P : Y → Type 0) (f : X → Y) (xs : List X) → AllByRecursion (λ x. P (f x)) xs → AllByRecursion P (map f xs)
all_map P f [] h = tt
all_map P f (x ∷ xs) h = (h.0, all_map P f xs h.1)

pub all_weaker : {X : Type 0} (P Q : X → Type 0) → ((x : X) → P x → Q x) → (xs : List X) → AllByRecursion P xs → AllByRecursion Q xs
all_weaker P Q f [] h = tt
all_weaker P Q f (x ∷ xs) h = (f x h.0, all_weaker P Q f xs h.1)

pub all_filter : {X : Type 0} (P Q : X → Type 0) (test : X → Bool) → ((x : X) → test x ≡ true → P x → Q x) → (xs : List X) → AllByRecursion P xs → AllByRecursion Q (filter test xs)
all_filter P Q test f [] h = tt
all_filter P Q test f (x ∷ xs) h = elim (cases_Bool (test x)) [
  | inl e ↦ subst (AllByRecursion Q) (sym (cond-true (test x) (x ∷ filter test xs) (filter test xs) e)) (f x e h.0, all_filter P Q test f xs h.1)
  | inr e ↦ subst (AllByRecursion Q) (sym (cond-false (test x) (x ∷ filter test xs) (filter test xs) e)) (all_filter P Q test f xs h.1)
]

pub record IsWithin (a n k : ℕ) : Type 0 where
  pub least : a ≤ k
  pub below : k < n

all_range : (a m n : ℕ) → a + m ≤ n → AllByRecursion (IsWithin a n) (range_with_len a m)
all_range a zero n h = tt
all_range a (suc m) n h = (record { least = omega arith; below = omega (arith, h) }, all_weaker (IsWithin (a + 1) n) (IsWithin a n) (λ k w. record { least = omega (arith, w.least); below = w.below }) (range_with_len (a + 1) m) (all_range (a + 1) m n (omega (arith, h))))

no_range : (a n m : ℕ) → n - a ≡ m → n < a → m ≡ 0
no_range a n m e h = omega (arith, e, h)

all_from_by : (a n m : ℕ) → n - a ≡ m → AllByRecursion (IsWithin a n) (range_with_len a m)
all_from_by a n zero e = tt
all_from_by a n (suc m) e = all_range a (suc m) n (omega (arith, e))

pub all_from : (a n : ℕ) → AllByRecursion (IsWithin a n) (numbers_between a n)
all_from a n = all_from_by a n (n - a) refl

-- ---- one member
abbrev pub IsAmong : {X : Type 0} → X → List X → Type 0
IsAmong x [] = ⊥
IsAmong x (y ∷ ys) = (x ≡ y) ⊎ IsAmong x ys

pub among_left : {X : Type 0} (x : X) (xs ys : List X) → IsAmong x xs → IsAmong x (xs ++ ys)
among_left x [] ys h = absurd h
among_left x (y ∷ xs) ys h = elim h [ inl e ↦ inl e | inr m ↦ inr (among_left x xs ys m) ]

pub among_right : {X : Type 0} (x : X) (xs ys : List X) → IsAmong x ys → IsAmong x (xs ++ ys)
among_right x [] ys h = h
among_right x (y ∷ xs) ys h = inr (among_right x xs ys h)

pub among_flat : {X Y : Type 0} (f : X → List Y) (x : X) (y : Y) (xs : List X) → IsAmong x xs → IsAmong y (f x) → IsAmong y (flat_map f xs)
among_flat f x y [] h k = absurd h
among_flat f x y (z ∷ xs) h k = elim h [
  | inl e ↦ among_left y (f z) (flat_map f xs) (subst (λ u. IsAmong y (f u)) e k)
  | inr m ↦ among_right y (f z) (flat_map f xs) (among_flat f x y xs m k)
]

pub among_map : {X Y : Type 0} (f : X → Y) (x : X) (xs : List X) → IsAmong x xs → IsAmong (f x) (map f xs)
among_map f x [] h = absurd h
among_map f x (y ∷ xs) h = elim h [ inl e ↦ inl (ap f e) | inr m ↦ inr (among_map f x xs m) ]

pub among_filter : {X : Type 0} (test : X → Bool) (x : X) (xs : List X) → test x ≡ true → IsAmong x xs → IsAmong x (filter test xs)
among_filter test x [] e h = absurd h
among_filter test x (y ∷ xs) e h = elim (cases_Bool (test y)) [
  | inl t ↦ subst (IsAmong x) (sym (cond-true (test y) (y ∷ filter test xs) (filter test xs) t)) (elim h [ inl s ↦ inl s | inr m ↦ inr (among_filter test x xs e m) ])
  | inr t ↦ subst (IsAmong x) (sym (cond-false (test y) (y ∷ filter test xs) (filter test xs) t)) (elim h [ inl s ↦ absurd (true≢false (sym e ∙ ap test s ∙ t)) | inr m ↦ among_filter test x xs e m ])
]

at_or_after : (a k : ℕ) → a ≤ k → (k ≡ a) ⊎ (a + 1 ≤ k)
at_or_after a k h = elim (cases_lt a k) [ inl l ↦ inr (omega (arith, l)) | inr g ↦ inl (omega (arith, h, g)) ]

pub among_range : (a m k : ℕ) → a ≤ k → k < a + m → IsAmong k (range_with_len a m)
among_range a zero k h lt = absurd (omega (arith, h, lt))
among_range a (suc m) k h lt = elim (at_or_after a k h) [ inl e ↦ inl e | inr after ↦ inr (among_range (a + 1) m k after (omega (arith, lt))) ]

pub among_from : (a n k : ℕ) → a ≤ k → k < n → IsAmong k (numbers_between a n)
among_from a n k h lt = among_range a (n - a) k h (omega (arith, h, lt))

-- its place
pub record IsAt {X : Type 0} (x : X) (xs : List X) : Type 0 where
  pub place : ℕ
  pub within : place < length xs
  pub is : (d : X) → get_or xs place d ≡ x

pub found_at : {X : Type 0} (x : X) (xs : List X) → IsAmong x xs → IsAt x xs
found_at x [] h = absurd h
found_at x (y ∷ xs) h = elim h [
  | inl e ↦ record { place = 0; within = omega arith; is = λ d. sym e }
  | inr m ↦ (let f = found_at x xs m in record { place = suc f.place; within = omega (arith, f.within); is = f.is })
]

pub member : {X : Type 0} (P : X → Type 0) (x : X) (xs : List X) → AllByRecursion P xs → IsAmong x xs → P x
member P x [] h m = absurd m
member P x (y ∷ xs) h m = elim m [ inl e ↦ subst P (sym e) h.0 | inr n ↦ member P x xs h.1 n ]
