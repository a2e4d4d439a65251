-- Faces that are found one after another are the supporting triples, of equal planes the first alone.
use Rattle.std.proofs.Common.{◌≡◌, inl, inr, Bool, true, false, not, ◌&&◌, ◌||◌, ℕ, suc, zero, ◌+◌, ◌-◌, ◌<◌, ◌≤◌, ℤ, List, [], ◌∷◌, ◌++◌, length, map, filter, flat_map, fold, refl, sym, ap, ◌∙◌, arith, true≢false, append-nil, append_assoc}
use Rattle.std.specs.List.{AllByRecursion, list_any, range_with_len}
use Rattle.std.proofs.lemmas.Bool.{cases_Bool, cond-true, cond-false, and_from, and_left, and_right, or_left, or_right, or_cases, not_from_true, not_from_false}
use Rattle.scad_hull.specs.Hulls.{faces_of_hull, first_of_planes, numbers_between, is_supporting, shares_plane, triples, triples_by, triples_from}
use Rattle.scad_hull.specs.Steps.{with_triple, with_triples}
use Rattle.scad_hull.proofs.Supporting.{all_first, all_triples, support_of, through_both, IsSupport, IsTriple}
use Rattle.scad_hull.proofs.lemmas.Members.{all_filter}

-- ---- lists
pub fold_append : {A B : Type 0} (f : B → A → B) (a : B) (xs ys : List A) → fold f a (xs ++ ys) ≡ fold f (fold f a xs) ys
fold_append f a [] ys = refl
fold_append f a (x ∷ xs) ys = fold_append f (f a x) xs ys

filter_cons_true : {X : Type 0} (p : X → Bool) (x : X) (xs : List X) → p x ≡ true → filter p (x ∷ xs) ≡ x ∷ filter p xs
filter_cons_true p x xs e = cond-true (p x) (x ∷ filter p xs) (filter p xs) e

filter_cons_false : {X : Type 0} (p : X → Bool) (x : X) (xs : List X) → p x ≡ false → filter p (x ∷ xs) ≡ filter p xs
filter_cons_false p x xs e = cond-false (p x) (x ∷ filter p xs) (filter p xs) e

filter_all : {X : Type 0} (p : X → Bool) → ((x : X) → p x ≡ true) → (xs : List X) → filter p xs ≡ xs
filter_all p h [] = refl
filter_all p h (x ∷ xs) = filter_cons_true p x xs (h x) ∙ ap (λ ys. x ∷ ys) (filter_all p h xs)

-- a filter after a weaker one
filter_after : {X : Type 0} (p q : X → Bool) (xs : List X) → AllByRecursion (λ x. p x ≡ true → q x ≡ true) xs → filter p (filter q xs) ≡ filter p xs
filter_after p q [] h = refl
filter_after p q (x ∷ xs) h = elim (cases_Bool (p x)) [
  | inl e ↦ ap (filter p) (filter_cons_true q x xs (h.0 e)) ∙ filter_cons_true p x (filter q xs) e ∙ ap (λ ys. x ∷ ys) (filter_after p q xs h.1) ∙ sym (filter_cons_true p x xs e)
  | inr e ↦ elim (cases_Bool (q x)) [
    | inl k ↦ ap (filter p) (filter_cons_true q x xs k) ∙ filter_cons_false p x (filter q xs) e ∙ filter_after p q xs h.1 ∙ sym (filter_cons_false p x xs e)
    | inr k ↦ ap (filter p) (filter_cons_false q x xs k) ∙ filter_after p q xs h.1 ∙ sym (filter_cons_false p x xs e)
  ]
]

-- one filter after another
filter_both : {X : Type 0} (p q r : X → Bool) → ((x : X) → r x ≡ (p x && q x)) → (xs : List X) → filter p (filter q xs) ≡ filter r xs
filter_both p q r h [] = refl
filter_both p q r h (x ∷ xs) = elim (cases_Bool (q x)) [
  | inr k ↦ ap (filter p) (filter_cons_false q x xs k) ∙ filter_both p q r h xs ∙ sym (filter_cons_false r x xs (h x ∙ and_right (p x) (q x) k))
  | inl k ↦ elim (cases_Bool (p x)) [
    | inl e ↦ ap (filter p) (filter_cons_true q x xs k) ∙ filter_cons_true p x (filter q xs) e ∙ ap (λ ys. x ∷ ys) (filter_both p q r h xs) ∙ sym (filter_cons_true r x xs (h x ∙ and_from (p x) (q x) e k))
    | inr e ↦ ap (filter p) (filter_cons_true q x xs k) ∙ filter_cons_false p x (filter q xs) e ∙ filter_both p q r h xs ∙ sym (filter_cons_false r x xs (h x ∙ and_left (p x) (q x) e))
  ]
]

-- ---- planes that are listed
abbrev pub listed : List (List ℤ) → List (List ℕ) → List ℕ → Bool
listed points faces t = list_any (λ s. shares_plane points s t) faces

or_false : (a : Bool) → (a || false) ≡ (false || a)
or_false true = refl
or_false false = refl

or_assoc : (a b c : Bool) → (a || (b || c)) ≡ ((a || b) || c)
or_assoc true b c = refl
or_assoc false b c = refl

pub listed_push : (points : List (List ℤ)) (faces : List (List ℕ)) (t u : List ℕ) → listed points (faces ++ t ∷ []) u ≡ (listed points faces u || shares_plane points t u)
listed_push points [] t u = or_false (shares_plane points t u)
listed_push points (s ∷ faces) t u = ap (λ b. shares_plane points s u || b) (listed_push points faces t u) ∙ or_assoc (shares_plane points s u) (listed points faces u) (shares_plane points t u)

not_or : (a b : Bool) → not (a || b) ≡ (not a && not b)
not_or true b = refl
not_or false b = refl

-- a triple with the plane of one that is listed
listed_too : (points : List (List ℤ)) (faces : List (List ℕ)) (t u : List ℕ) → IsSupport points t → IsSupport points u → listed points faces t ≡ true → shares_plane points t u ≡ true → listed points faces u ≡ true
listed_too points [] t u ht hu l e = absurd (true≢false (sym l))
listed_too points (s ∷ faces) t u ht hu l e = elim (or_cases (shares_plane points s t) (listed points faces t) l) [
  | inl here ↦ or_left (shares_plane points s u) (listed points faces u) (through_both points s t u ht hu here e)
  | inr more ↦ or_right (shares_plane points s u) (listed points faces u) (listed_too points faces t u ht hu more e)
]

not_shared : (points : List (List ℤ)) (faces : List (List ℕ)) (t u : List ℕ) → IsSupport points t → IsSupport points u → listed points faces t ≡ true → not (listed points faces u) ≡ true → not (shares_plane points t u) ≡ true
not_shared points faces t u ht hu l new = elim (cases_Bool (shares_plane points t u)) [
  | inl e ↦ absurd (true≢false (sym new ∙ not_from_true (listed points faces u) (listed_too points faces t u ht hu l e)))
  | inr e ↦ not_from_false (shares_plane points t u) e
]

all_not_shared : (points : List (List ℤ)) (faces : List (List ℕ)) (t : List ℕ) (us : List (List ℕ)) → IsSupport points t → AllByRecursion (IsSupport points) us → listed points faces t ≡ true → AllByRecursion (λ u. not (listed points faces u) ≡ true → not (shares_plane points t u) ≡ true) us
all_not_shared points faces t [] ht h l = tt
all_not_shared points faces t (u ∷ us) ht h l = (not_shared points faces t u ht h.0 l, all_not_shared points faces t us ht h.1 l)

-- the supporting ones of some triples, of equal planes the first alone
abbrev found : List (List ℤ) → List (List ℕ) → List (List ℕ)
found points ts = first_of_planes points (filter (is_supporting points) ts)

-- those whose plane isn't listed
abbrev fresh : List (List ℤ) → List (List ℕ) → List (List ℕ) → List (List ℕ)
fresh points faces ts = filter (λ u. not (listed points faces u)) ts

all_found : (points : List (List ℤ)) (ts : List (List ℕ)) → AllByRecursion (IsTriple (length points)) ts → AllByRecursion (IsSupport points) (found points ts)
all_found points ts h = all_first points (IsSupport points) (filter (is_supporting points) ts) (all_filter (IsTriple (length points)) (IsSupport points) (is_supporting points) (support_of points) ts h)

found_no : (points : List (List ℤ)) (t : List ℕ) (ts : List (List ℕ)) → is_supporting points t ≡ false → found points (t ∷ ts) ≡ found points ts
found_no points t ts e = ap (first_of_planes points) (filter_cons_false (is_supporting points) t ts e)

found_yes : (points : List (List ℤ)) (t : List ℕ) (ts : List (List ℕ)) → is_supporting points t ≡ true → found points (t ∷ ts) ≡ t ∷ filter (λ u. not (shares_plane points t u)) (found points ts)
found_yes points t ts e = ap (first_of_planes points) (filter_cons_true (is_supporting points) t ts e)

one_by_one : (points : List (List ℤ)) (faces ts : List (List ℕ)) → AllByRecursion (IsTriple (length points)) ts → with_triples points faces ts ≡ faces ++ fresh points faces (found points ts)
one_by_one points faces [] h = sym (append-nil faces)
one_by_one points faces (t ∷ ts) h = elim (cases_Bool (is_supporting points t)) [
  | inr bad ↦
      ap (λ fs. with_triples points fs ts) (cond-false (is_supporting points t && not (listed points faces t)) (faces ++ t ∷ []) faces (and_left (is_supporting points t) (not (listed points faces t)) bad))
      ∙ one_by_one points faces ts h.1
      ∙ ap (λ us. faces ++ fresh points faces us) (sym (found_no points t ts bad))
  | inl good ↦ elim (cases_Bool (listed points faces t)) [
    | inl old ↦
        ap (λ fs. with_triples points fs ts) (cond-false (is_supporting points t && not (listed points faces t)) (faces ++ t ∷ []) faces (and_right (is_supporting points t) (not (listed points faces t)) (not_from_true (listed points faces t) old)))
        ∙ one_by_one points faces ts h.1
        ∙ ap (λ us. faces ++ us)
        (sym (filter_after (λ u. not (listed points faces u)) (λ u. not (shares_plane points t u)) (found points ts) (all_not_shared points faces t (found points ts) (support_of points t good h.0) (all_found points ts h.1) old))
        ∙ sym (filter_cons_false (λ u. not (listed points faces u)) t (filter (λ u. not (shares_plane points t u)) (found points ts)) (not_from_true (listed points faces t) old))
        ∙ ap (fresh points faces) (sym (found_yes points t ts good)))
    | inr new ↦
        ap (λ fs. with_triples points fs ts) (cond-true (is_supporting points t && not (listed points faces t)) (faces ++ t ∷ []) faces (and_from (is_supporting points t) (not (listed points faces t)) good (not_from_false (listed points faces t) new)))
        ∙ one_by_one points (faces ++ t ∷ []) ts h.1
        ∙ append_assoc faces (t ∷ []) (fresh points (faces ++ t ∷ []) (found points ts))
        ∙ ap (λ us. faces ++ (t ∷ us))
        (sym (filter_both (λ u. not (listed points faces u)) (λ u. not (shares_plane points t u)) (λ u. not (listed points (faces ++ t ∷ []) u)) (λ u. ap not (listed_push points faces t u) ∙ not_or (listed points faces u) (shares_plane points t u)) (found points ts)))
        ∙ ap (λ us. faces ++ us)
        (sym (filter_cons_true (λ u. not (listed points faces u)) t (filter (λ u. not (shares_plane points t u)) (found points ts)) (not_from_false (listed points faces t) new))
        ∙ ap (fresh points faces) (sym (found_yes points t ts good)))
  ]
]

-- all of them, where none were found before
pub all_faces_are : (points : List (List ℤ)) → with_triples points [] (triples (length points)) ≡ faces_of_hull points
all_faces_are points = one_by_one points [] (triples (length points)) (all_triples (length points)) ∙ filter_all (λ u. not (listed points [] u)) (λ u. refl) (found points (triples (length points)))

-- ---- the numbers that are left
from_more : (a m n : ℕ) → n - a ≡ suc m → range_with_len a (n - a) ≡ a ∷ range_with_len (a + 1) (n - (a + 1))
from_more a m n e = ap (range_with_len a) e ∙ ap (λ k. a ∷ range_with_len (a + 1) k) (omega (arith, e))

from_by : (a m n : ℕ) → n - a ≡ m → a < n → range_with_len a (n - a) ≡ a ∷ range_with_len (a + 1) (n - (a + 1))
from_by a zero n e lt = absurd (omega (arith, e, lt))
from_by a (suc m) n e lt = from_more a m n e

pub from_next : (a n : ℕ) → a < n → numbers_between a n ≡ a ∷ numbers_between (a + 1) n
from_next a n lt = from_by a (n - a) n refl lt

none_left : (a n : ℕ) → n ≤ a → n - a ≡ 0
none_left a n h = omega (arith, h)

pub from_done : (a n : ℕ) → n ≤ a → numbers_between a n ≡ []
from_done a n h = ap (range_with_len a) (none_left a n h)

range_push : (a m : ℕ) → range_with_len a (suc m) ≡ range_with_len a m ++ (a + m) ∷ []
range_push a zero = ap (λ k. k ∷ []) (omega arith)
range_push a (suc m) = ap (λ ks. a ∷ ks) (range_push (a + 1) m ∙ ap (λ k. range_with_len (a + 1) m ++ k ∷ []) (omega arith))

one_more : (m : ℕ) → (m + 1) - 0 ≡ suc m
one_more m = omega arith

pub from_push : (m : ℕ) → numbers_between 0 (m + 1) ≡ numbers_between 0 m ++ m ∷ []
from_push m = ap (range_with_len 0) (one_more m) ∙ range_push 0 m ∙ ap (λ k. range_with_len 0 m ++ k ∷ []) (omega arith) ∙ ap (λ k. range_with_len 0 k ++ m ∷ []) (omega arith)

-- the steps of the three loops: what is left, added to the faces so far
pub triple_next : (points : List (List ℤ)) (faces : List (List ℕ)) (n i j k : ℕ) → k < n → with_triples points faces (map (λ l. i ∷ j ∷ l ∷ []) (numbers_between k n)) ≡ with_triples points (with_triple points faces (i ∷ j ∷ k ∷ [])) (map (λ l. i ∷ j ∷ l ∷ []) (numbers_between (k + 1) n))
triple_next points faces n i j k lt = ap (λ ks. with_triples points faces (map (λ l. i ∷ j ∷ l ∷ []) ks)) (from_next k n lt)

pub pair_next : (points : List (List ℤ)) (faces : List (List ℕ)) (n i j : ℕ) → j < n → with_triples points faces (flat_map (triples_by n i) (numbers_between j n)) ≡ with_triples points (with_triples points faces (triples_by n i j)) (flat_map (triples_by n i) (numbers_between (j + 1) n))
pair_next points faces n i j lt = ap (λ ks. with_triples points faces (flat_map (triples_by n i) ks)) (from_next j n lt) ∙ fold_append (with_triple points) faces (triples_by n i j) (flat_map (triples_by n i) (numbers_between (j + 1) n))

pub first_next : (points : List (List ℤ)) (faces : List (List ℕ)) (n i : ℕ) → i < n → with_triples points faces (flat_map (triples_from n) (numbers_between i n)) ≡ with_triples points (with_triples points faces (triples_from n i)) (flat_map (triples_from n) (numbers_between (i + 1) n))
first_next points faces n i lt = ap (λ ks. with_triples points faces (flat_map (triples_from n) ks)) (from_next i n lt) ∙ fold_append (with_triple points) faces (triples_from n i) (flat_map (triples_from n) (numbers_between (i + 1) n))
