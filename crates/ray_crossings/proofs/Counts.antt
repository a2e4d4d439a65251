-- Tests of the edges of a face, by their numbers, and how many faces pass a test.
use Rattle.std.proofs.Common.{◌≡◌, ◌≢◌, ◌⊎◌, inl, inr, ℕ, zero, suc, ◌<◌, Bool, true, false, ◌&&◌, List, [], ◌∷◌, ◌++◌, length, map, slice_index, slice_index_or, refl, sym, ap, ap₂, ◌∙◌, arith, ℤ, pos, ◌+ℤ◌}
use Rattle.std.specs.List.{list_all}
use Rattle.std.proofs.lemmas.Bool.{and_parts, and_from}
use Rattle.std.proofs.lemmas.Bool.Decides.{eqb_tells}
use Rattle.std.proofs.lemmas.List.{map-append}
use Rattle.std.proofs.lemmas.List.Folds.{list_all-append}
use Rattle.plane_predicate.specs.Space.{Coordinates}
use Rattle.plane_predicate.specs.Indices.{indices_below, index_after}
use Rattle.plane_predicate.specs.Sums.{sum_over}
use Rattle.closed_surface.specs.Near.{indicator}
use Rattle.closed_surface.specs.Closed.{Edge, edges_of, corners_at}
use Rattle.closed_surface.proofs.lemmas.Counting.{edges_by_number}
use Rattle.closed_surface.proofs.lemmas.Numbers.{false_by}
use Rattle.off_text.specs.Boundaries.{face_corner, OneExactlyWhere}

-- ---- the edges of a face by their numbers
map_first : {X : Type 0} (f : ℕ → X) (n : ℕ) → map f (indices_below (suc n)) ≡ f 0 ∷ map (λ i. f (suc i)) (indices_below n)
map_first f zero = refl
map_first f (suc n) =
    map-append f (indices_below (suc n)) (suc n ∷ [])
    ∙ ap (λ xs. xs ++ f (suc n) ∷ []) (map_first f n)
    ∙ ap (λ xs. f 0 ∷ xs) (sym (map-append (λ i. f (suc i)) (indices_below n) (n ∷ [])))

by_number : (g : ℕ → Coordinates) (xs : List ℕ) → map g xs ≡ map (λ i. g (slice_index xs i)) (indices_below (length xs))
by_number g [] = refl
by_number g (x ∷ xs) = ap (λ ys. g x ∷ ys) (by_number g xs) ∙ sym (map_first (λ i. g (slice_index (x ∷ xs) i)) (length xs))

abbrev edge_of : List Coordinates → List ℕ → ℕ → Edge
edge_of vertices face i = (face_corner vertices face i, face_corner vertices face (index_after (length face) i))

edges_are : (vertices : List Coordinates) (face : List ℕ) → 0 < length face → edges_of (corners_at vertices face) ≡ map (edge_of vertices face) (indices_below (length face))
edges_are vertices face h =
    ap edges_of (by_number (λ i. slice_index_or vertices i (record { x = pos 0; y = pos 0; z = pos 0; w = pos 1 })) face)
    ∙ edges_by_number (λ i. face_corner vertices face i) (length face) h

last_or_less : (i k : ℕ) → i < suc k → (i ≡ k) ⊎ (i < k)
last_or_less i k h = elim (eqb_tells i k) [ inl p ↦ inl p.1 | inr p ↦ inr (omega (arith, p.1)) ]

all_next : {X : Type 0} (t : X → Bool) (h : ℕ → X) (k : ℕ) → list_all t (map h (indices_below (suc k))) ≡ (list_all t (map h (indices_below k)) && list_all t (h k ∷ []))
all_next t h k = ap (list_all t) (map-append h (indices_below k) (k ∷ [])) ∙ list_all-append t (map h (indices_below k)) (h k ∷ [])

all_to : {X : Type 0} (t : X → Bool) (h : ℕ → X) (k : ℕ) → list_all t (map h (indices_below k)) ≡ true → (i : ℕ) → i < k → t (h i) ≡ true
all_to t h zero e i l = absurd (omega arith)
all_to t h (suc k) e i l =
    let p = and_parts (list_all t (map h (indices_below k))) (list_all t (h k ∷ [])) (sym (all_next t h k) ∙ e) in
    elim (last_or_less i k l) [
      | inl s ↦ ap (λ j. t (h j)) s ∙ (and_parts (t (h k)) true p.1).0
      | inr m ↦ all_to t h k p.0 i m
    ]

all_from : {X : Type 0} (t : X → Bool) (h : ℕ → X) (k : ℕ) → ((i : ℕ) → i < k → t (h i) ≡ true) → list_all t (map h (indices_below k)) ≡ true
all_from t h zero e = refl
all_from t h (suc k) e =
    all_next t h k
    ∙ and_from (list_all t (map h (indices_below k))) (list_all t (h k ∷ [])) (all_from t h k (λ i l. e i (omega arith)))
    (and_from (t (h k)) true (e k (omega arith)) refl)

pub each_edge : (t : Edge → Bool) (vertices : List Coordinates) (face : List ℕ) → 0 < length face → list_all t (edges_of (corners_at vertices face)) ≡ true →
    (i : ℕ) → i < length face → t (edge_of vertices face i) ≡ true
each_edge t vertices face h e i l = all_to t (edge_of vertices face) (length face) (sym (ap (list_all t) (edges_are vertices face h)) ∙ e) i l

pub all_edges : (t : Edge → Bool) (vertices : List Coordinates) (face : List ℕ) → 0 < length face → ((i : ℕ) → i < length face → t (edge_of vertices face i) ≡ true) →
    list_all t (edges_of (corners_at vertices face)) ≡ true
all_edges t vertices face h e = ap (list_all t) (edges_are vertices face h) ∙ all_from t (edge_of vertices face) (length face) e

-- ---- how many faces pass a test
abbrev at : List (List ℕ) → ℕ → List ℕ
at faces i = slice_index_or faces i []

abbrev counted : (List ℕ → Bool) → List (List ℕ) → ℤ
counted t faces = sum_over (λ face. indicator (t face)) faces

none_pass : (t : List ℕ → Bool) (faces : List (List ℕ)) → ((i : ℕ) → i < length faces → t (at faces i) ≡ false) → counted t faces ≡ pos 0
none_pass t [] h = refl
none_pass t (face ∷ faces) h = ap₂ (λ (b : Bool) (n : ℤ). indicator b +ℤ n) (h 0 (omega arith)) (none_pass t faces (λ i l. h (suc i) (omega arith)))

one_passes : (t : List ℕ → Bool) (faces : List (List ℕ)) (i : ℕ) → i < length faces → t (at faces i) ≡ true →
    ((j : ℕ) → j < length faces → j ≢ i → t (at faces j) ≡ false) → counted t faces ≡ pos 1
one_passes t [] i l e h = absurd (omega arith)
one_passes t (face ∷ faces) zero l e h =
    ap₂ (λ (b : Bool) (n : ℤ). indicator b +ℤ n) e (none_pass t faces (λ i m. h (suc i) (omega arith) (λ k. omega arith)))
one_passes t (face ∷ faces) (suc i) l e h =
    ap₂ (λ (b : Bool) (n : ℤ). indicator b +ℤ n) (h 0 (omega arith) (λ k. omega arith))
    (one_passes t faces i (omega arith) e (λ j m k. h (suc j) (omega arith) (λ s. k (omega arith))))

-- the test is passed by exactly those of the faces that have P
abbrev pub Tests : (List ℕ → Type 0) → (List ℕ → Bool) → List (List ℕ) → Type 0
Tests P t faces = (i : ℕ) → i < length faces → (t (at faces i) ≡ true → P (at faces i)) × (P (at faces i) → t (at faces i) ≡ true)

pub count_where : (b : Bool) (P : List ℕ → Type 0) (t : List ℕ → Bool) (faces : List (List ℕ)) → Tests P t faces → OneExactlyWhere b P faces →
    sum_over (λ face. indicator (t face)) faces ≡ indicator b
count_where true P t faces h one =
    one_passes t faces one.index one.within ((h one.index one.within).1 one.has)
    (λ j l k. false_by (t (at faces j)) (λ e. k (one.only j l ((h j l).0 e))))
count_where false P t faces h none = none_pass t faces (λ i l. false_by (t (at faces i)) (λ e. none i l ((h i l).0 e)))
