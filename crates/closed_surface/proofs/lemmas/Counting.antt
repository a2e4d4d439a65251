-- How many edges of a polygon pass a test, by their numbers.
use Rattle.std.proofs.Common.{◌≡◌, ◌≢◌, ◌⊎◌, inl, inr, ℕ, zero, suc, ◌+◌, ◌<◌, Bool, true, false, cond, List, [], ◌∷◌, ◌++◌, length, map, take, drop, refl, sym, ap, ap₂, ◌∙◌, arith}
use Rattle.std.specs.Prelude.{zip, count_by}
use Rattle.std.proofs.lemmas.Bool.Decides.{eqb_tells}
use Rattle.std.proofs.lemmas.List.{map-append, length-map}
use Rattle.std.proofs.lemmas.List.Sums.{sum_by-append}
use Rattle.plane_predicate.specs.Space.{Coordinates}
use Rattle.plane_predicate.specs.Indices.{index_after}
use Rattle.plane_predicate.specs.Indices.{indices_below}
use Rattle.plane_polygon.proofs.lemmas.Hull.{after_inside, after_last}
use Rattle.closed_surface.specs.Closed.{Edge, edges_of}

-- how many of the first numbers pass the test
abbrev pub count_to : (ℕ → Bool) → ℕ → ℕ
count_to p zero = 0
count_to p (suc n) = count_to p n + cond (p n) 1 0

-- ---- the edges by their numbers
map_same : {X : Type 0} (f g : ℕ → X) (n : ℕ) → ((i : ℕ) → i < n → f i ≡ g i) → map f (indices_below n) ≡ map g (indices_below n)
map_same f g zero h = refl
map_same f g (suc n) h =
    map-append f (indices_below n) (n ∷ [])
    ∙ ap₂ (λ xs x. xs ++ x ∷ []) (map_same f g n (λ i l. h i (omega arith))) (h n (omega arith))
    ∙ sym (map-append g (indices_below n) (n ∷ []))

map_first : {X : Type 0} (f : ℕ → X) (n : ℕ) → map f (indices_below (suc n)) ≡ f 0 ∷ map (λ i. f (suc i)) (indices_below n)
map_first f zero = refl
map_first f (suc n) =
    map-append f (indices_below (suc n)) (suc n ∷ [])
    ∙ ap (λ xs. xs ++ f (suc n) ∷ []) (map_first f n)
    ∙ ap (λ xs. f 0 ∷ xs) (sym (map-append (λ i. f (suc i)) (indices_below n) (n ∷ [])))

zip_append : {X Y : Type 0} (us cs : List X) (bs ds : List Y) → length us ≡ length bs → zip (us ++ cs) (bs ++ ds) ≡ zip us bs ++ zip cs ds
zip_append [] cs [] ds h = refl
zip_append [] cs (b ∷ bs) ds h = absurd (omega arith)
zip_append (u ∷ us) cs [] ds h = absurd (omega arith)
zip_append (u ∷ us) cs (b ∷ bs) ds h = ap (λ xs. (u, b) ∷ xs) (zip_append us cs bs ds (omega arith))

zip_maps : {X Y Z : Type 0} (f : X → Y) (g : X → Z) (xs : List X) → zip (map f xs) (map g xs) ≡ map (λ x. (f x, g x)) xs
zip_maps f g [] = refl
zip_maps f g (x ∷ xs) = ap (λ ys. (f x, g x) ∷ ys) (zip_maps f g xs)

round_of : (f : ℕ → Coordinates) (n : ℕ) → drop 1 (map f (indices_below (suc n))) ++ take 1 (map f (indices_below (suc n))) ≡ map (λ i. f (suc i)) (indices_below n) ++ f 0 ∷ []
round_of f n = ap (λ xs. drop 1 xs ++ take 1 xs) (map_first f n)

pub edges_by_number : (f : ℕ → Coordinates) (k : ℕ) → 0 < k → edges_of (map f (indices_below k)) ≡ map (λ i. (f i, f (index_after k i))) (indices_below k)
edges_by_number f zero h = absurd (omega arith)
edges_by_number f (suc n) h =
    ap₂ (λ xs ys. zip xs ys) (map-append f (indices_below n) (n ∷ [])) (round_of f n)
    ∙ zip_append (map f (indices_below n)) (f n ∷ []) (map (λ i. f (suc i)) (indices_below n)) (f 0 ∷ []) (length-map (indices_below n) f ∙ sym (length-map (indices_below n) (λ i. f (suc i))))
    ∙ ap₂ (λ xs x. xs ++ x ∷ [])
    (zip_maps f (λ i. f (suc i)) (indices_below n) ∙ map_same (λ i. (f i, f (suc i))) (λ i. (f i, f (index_after (suc n) i))) n (λ i l. ap (λ j. (f i, f j)) (sym (after_inside (suc n) i (omega arith)))))
    (ap (λ j. (f n, f j)) (sym (after_last (suc n) n refl)))
    ∙ sym (map-append (λ i. (f i, f (index_after (suc n) i))) (indices_below n) (n ∷ []))

-- ---- counts
one_more : (b : ℕ) → 0 + b ≡ b
one_more b = omega arith

pub count_map : {X : Type 0} (p : X → Bool) (f : ℕ → X) (n : ℕ) → count_by p (map f (indices_below n)) ≡ count_to (λ i. p (f i)) n
count_map p f zero = refl
count_map p f (suc n) =
    ap (count_by p) (map-append f (indices_below n) (n ∷ []))
    ∙ sum_by-append (λ x. cond (p x) 1 0) (map f (indices_below n)) (f n ∷ [])
    ∙ ap₂ (λ a b. a + b) (count_map p f n) (one_more (cond (p (f n)) 1 0))

pub count_edges : (p : Edge → Bool) (f : ℕ → Coordinates) (k : ℕ) → 0 < k → count_by p (edges_of (map f (indices_below k))) ≡ count_to (λ i. p (f i, f (index_after k i))) k
count_edges p f k h = ap (count_by p) (edges_by_number f k h) ∙ count_map p (λ i. (f i, f (index_after k i))) k

pub count_same : (p r : ℕ → Bool) (n : ℕ) → ((i : ℕ) → i < n → p i ≡ r i) → count_to p n ≡ count_to r n
count_same p r zero h = refl
count_same p r (suc n) h = ap₂ (λ a b. a + cond b 1 0) (count_same p r n (λ i l. h i (omega arith))) (h n (omega arith))

pub count_none : (p : ℕ → Bool) (n : ℕ) → ((i : ℕ) → i < n → p i ≡ false) → count_to p n ≡ 0
count_none p zero h = refl
count_none p (suc n) h = ap₂ (λ a b. a + cond b 1 0) (count_none p n (λ i l. h i (omega arith))) (h n (omega arith))

step_up : (n i : ℕ) → i < suc n → (i ≡ n) ⊎ (i < n)
step_up n i h = elim (eqb_tells i n) [ inl p ↦ inl p.1 | inr p ↦ inr (omega (arith, p.1)) ]

pub count_one : (p : ℕ → Bool) (n i : ℕ) → i < n → p i ≡ true → ((j : ℕ) → j < n → j ≢ i → p j ≡ false) → count_to p n ≡ 1
count_one p zero i l t h = absurd (omega arith)
count_one p (suc n) i l t h = elim (step_up n i l) [
  | inl e ↦ ap₂ (λ a b. a + cond b 1 0) (count_none p n (λ j m. h j (omega arith) (λ k. omega arith))) (ap p (sym e) ∙ t)
  | inr m ↦ ap₂ (λ a b. a + cond b 1 0) (count_one p n i m t (λ j o. h j (omega arith))) (h n (omega arith) (λ k. omega arith))
]
