-- The edges of the part of a polygon behind a plane, listed from the edge by which its outline comes behind the plane.
use Rattle.std.proofs.Common.{◌≡◌, inl, inr, ℕ, zero, suc, ◌+◌, ◌-◌, ◌<◌, ◌≤◌, Bool, true, false, List, [], ◌∷◌, ◌++◌, length, map, flat_map, get_or, append_assoc, append-nil, refl, sym, ap, ap₂, ◌∙◌, arith, add-suc, add-zero, add-one}
use Rattle.std.proofs.lemmas.Grind.{flat_map-append}
use Rattle.std.proofs.lemmas.List.{map-append}
use Rattle.plane_predicate.specs.Space.{Coefficients}
use Rattle.plane_polygon.specs.Polygons.{Outline, edge_plane, edge_count, corner, missing_plane}
use Rattle.plane_polygon.specs.Parts.{index_before, edges_kept_at, edges_kept_by, is_behind, part_behind}
use Rattle.plane_polygon.proofs.lemmas.Hull.{after_is}
use Rattle.plane_polygon.proofs.lemmas.Rounds.{step, step_below, step_is, step_round, corner_from, edge_from}
use Rattle.plane_predicate.specs.Indices.{indices_below, index_after}

-- ---- the preceding index
pub before_after : (k p : ℕ) → p < k → index_before k (index_after k p) ≡ p
before_after k p h = elim (after_is k p) [ inl q ↦ (let e : k - 1 ≡ p = omega arith in ap (index_before k) q.1 ∙ e) | inr q ↦ ap (index_before k) q.1 ]

pub before_first : (k a t : ℕ) → a < k → suc t ≡ k → index_before k a ≡ step k a t
before_first k a t h e = ap (index_before k) (sym (step_round k a t h e)) ∙ before_after k (step k a t) (step_below k a t h)

-- ---- lists over 0, 1, .. below n
pub flat_up_to : {A : Type 0} (f : ℕ → List A) (n : ℕ) → flat_map f (indices_below (suc n)) ≡ flat_map f (indices_below n) ++ f n
flat_up_to f n = flat_map-append f (indices_below n) (n ∷ []) ∙ ap (λ (l : List _). flat_map f (indices_below n) ++ l) (append-nil (f n))

-- the first a of them, and then those from a on
flat_split : {A : Type 0} (f : ℕ → List A) (a n : ℕ) → flat_map f (indices_below (a + n)) ≡ flat_map f (indices_below a) ++ flat_map (λ u. f (a + u)) (indices_below n)
flat_split f a zero = ap (λ (n : ℕ). flat_map f (indices_below n)) (add-zero a) ∙ sym (append-nil (flat_map f (indices_below a)))
flat_split f a (suc n) =
    ap (λ (m : ℕ). flat_map f (indices_below m)) (add-suc a n)
    ∙ flat_up_to f (a + n)
    ∙ ap (λ (l : List _). l ++ f (a + n)) (flat_split f a n)
    ∙ append_assoc (flat_map f (indices_below a)) (flat_map (λ u. f (a + u)) (indices_below n)) (f (a + n))
    ∙ ap (λ (l : List _). flat_map f (indices_below a) ++ l) (sym (flat_up_to (λ u. f (a + u)) n))

flat_same : {A : Type 0} (f g : ℕ → List A) (n : ℕ) → ((u : ℕ) → u < n → f u ≡ g u) → flat_map f (indices_below n) ≡ flat_map g (indices_below n)
flat_same f g zero h = refl
flat_same f g (suc n) h =
    flat_up_to f n
    ∙ ap₂ (λ (l r : List _). l ++ r) (flat_same f g n (λ u b. h u (omega arith))) (h n (omega arith))
    ∙ sym (flat_up_to g n)

early : (k a u : ℕ) → a < k → a + u < k → step k a u ≡ a + u
early k a u h l = elim (step_is k a u h (omega arith)) [ inl p ↦ p.0 | inr p ↦ absurd (omega arith) ]

late : (k a u : ℕ) → a < k → u < a → step k a ((k - a) + u) ≡ u
late k a u h l = elim (step_is k a ((k - a) + u) h (omega arith)) [ inl p ↦ absurd (omega arith) | inr p ↦ omega arith ]

-- the part's edges, and the same ones listed from step to step
pub as_listed : {A : Type 0} (f : ℕ → List A) (k a : ℕ) → a < k →
    (xs : List A) × (ys : List A) × (flat_map f (indices_below k) ≡ xs ++ ys) × (flat_map (λ u. f (step k a u)) (indices_below k) ≡ ys ++ xs)
as_listed f k a h =
    let n : a + (k - a) ≡ k = omega arith in
    let m : (k - a) + a ≡ k = omega arith in (
      flat_map f (indices_below a),
      flat_map (λ u. f (a + u)) (indices_below (k - a)),
      ap (λ (j : ℕ). flat_map f (indices_below j)) (sym n) ∙ flat_split f a (k - a),
      ap (λ (j : ℕ). flat_map (λ u. f (step k a u)) (indices_below j)) (sym m)
          ∙ flat_split (λ u. f (step k a u)) (k - a) a
          ∙ ap₂ (λ (l r : List _). l ++ r)
          (flat_same (λ u. f (step k a u)) (λ u. f (a + u)) (k - a) (λ u b. ap f (early k a u h (omega arith))))
          (flat_same (λ u. f (step k a ((k - a) + u))) f a (λ u b. ap f (late k a u h b))),
    )

-- ---- what each side gives, counted from the edge by which the outline comes behind m
pub record Arc (s : Outline) (m : Coefficients) (a n : ℕ) : Type 0 where
  pub start : a < edge_count s
  pub some : 0 < n
  pub not_all : n < edge_count s
  pub behind : (u : ℕ) → u < n → is_behind m (corner_from s a u) ≡ true
  pub past : (u : ℕ) → n ≤ u → u < edge_count s → is_behind m (corner_from s a u) ≡ false

chosen : (s : Outline) (m : Coefficients) (i : ℕ) (b c : Bool) → is_behind m (corner s (index_before (edge_count s) i)) ≡ b → is_behind m (corner s i) ≡ c → edges_kept_at s m i ≡ edges_kept_by b c (edge_plane s i) m
chosen s m i b c p q = ap₂ (λ (b c : Bool). edges_kept_by b c (edge_plane s i) m) p q

kept_first : (s : Outline) (m : Coefficients) (a n : ℕ) → Arc s m a n → edges_kept_at s m (step (edge_count s) a 0) ≡ edge_from s a 0 ∷ []
kept_first s m a n h =
    let last : suc (edge_count s - 1) ≡ edge_count s = omega (arith, h.start) in
    let e = before_first (edge_count s) a (edge_count s - 1) h.start last in
    chosen s m a false true (ap (λ (i : ℕ). is_behind m (corner s i)) e ∙ h.past (edge_count s - 1) (omega (arith, h.not_all)) (omega (arith, h.start))) (h.behind 0 h.some)

prior : (s : Outline) (m : Coefficients) (a n u : ℕ) → Arc s m a n → is_behind m (corner s (index_before (edge_count s) (step (edge_count s) a (suc u)))) ≡ is_behind m (corner_from s a u)
prior s m a n u h = ap (λ (i : ℕ). is_behind m (corner s i)) (before_after (edge_count s) (step (edge_count s) a u) (step_below (edge_count s) a u h.start))

kept_inner : (s : Outline) (m : Coefficients) (a n u : ℕ) → Arc s m a n → suc u < n → edges_kept_at s m (step (edge_count s) a (suc u)) ≡ edge_from s a (suc u) ∷ []
kept_inner s m a n u h l = chosen s m (step (edge_count s) a (suc u)) true true (prior s m a n u h ∙ h.behind u (omega arith)) (h.behind (suc u) l)

kept_last : (s : Outline) (m : Coefficients) (a n u : ℕ) → Arc s m a n → suc u ≡ n → edges_kept_at s m (step (edge_count s) a (suc u)) ≡ edge_from s a (suc u) ∷ m ∷ []
kept_last s m a n u h l = chosen s m (step (edge_count s) a (suc u)) true false (prior s m a n u h ∙ h.behind u (omega arith)) (h.past (suc u) (omega arith) (omega (arith, h.not_all)))

kept_none : (s : Outline) (m : Coefficients) (a n u : ℕ) → Arc s m a n → n < suc u → suc u < edge_count s → edges_kept_at s m (step (edge_count s) a (suc u)) ≡ []
kept_none s m a n u h l b = chosen s m (step (edge_count s) a (suc u)) false false (prior s m a n u h ∙ h.past u (omega arith) (omega arith)) (h.past (suc u) (omega arith) b)

-- the edges from a on, as many as there are corners behind m, and one more, and m
abbrev pub arc_edges : Outline → Coefficients → ℕ → ℕ → List Coefficients
arc_edges s m a n = map (edge_from s a) (indices_below (suc n)) ++ m ∷ []

front : (s : Outline) (m : Coefficients) (a n : ℕ) → Arc s m a n → (u : ℕ) → u < n → flat_map (λ t. edges_kept_at s m (step (edge_count s) a t)) (indices_below (suc u)) ≡ map (edge_from s a) (indices_below (suc u))
front s m a n h zero l = ap (λ (x : List _). x ++ []) (kept_first s m a n h)
front s m a n h (suc u) l =
    flat_up_to (λ t. edges_kept_at s m (step (edge_count s) a t)) (suc u)
    ∙ ap₂ (λ (x y : List _). x ++ y) (front s m a n h u (omega arith)) (kept_inner s m a n u h l)
    ∙ sym (map-append (edge_from s a) (indices_below (suc u)) (suc u ∷ []))

arc_end : (s : Outline) (m : Coefficients) (a v : ℕ) → Arc s m a (suc v) → flat_map (λ t. edges_kept_at s m (step (edge_count s) a t)) (indices_below (suc (suc v))) ≡ arc_edges s m a (suc v)
arc_end s m a v h =
    flat_up_to (λ t. edges_kept_at s m (step (edge_count s) a t)) (suc v)
    ∙ ap₂ (λ (x y : List _). x ++ y) (front s m a (suc v) h v (omega arith)) (kept_last s m a (suc v) v h refl)
    ∙ sym (append_assoc (map (edge_from s a) (indices_below (suc v))) (edge_from s a (suc v) ∷ []) (m ∷ []))
    ∙ ap (λ (x : List _). x ++ m ∷ []) (sym (map-append (edge_from s a) (indices_below (suc v)) (suc v ∷ [])))

-- the sides behind the arc give nothing
arc_whole : (s : Outline) (m : Coefficients) (a v d j : ℕ) → Arc s m a (suc v) → j ≡ suc (suc v) + d → j ≤ edge_count s → flat_map (λ t. edges_kept_at s m (step (edge_count s) a t)) (indices_below j) ≡ arc_edges s m a (suc v)
arc_whole s m a v zero j h e l = let k : j ≡ suc (suc v) = omega arith in ap (λ (i : ℕ). flat_map (λ t. edges_kept_at s m (step (edge_count s) a t)) (indices_below i)) k ∙ arc_end s m a v h
arc_whole s m a v (suc d) zero h e l = absurd (omega arith)
arc_whole s m a v (suc d) (suc zero) h e l = absurd (omega arith)
arc_whole s m a v (suc d) (suc (suc j)) h e l =
    flat_up_to (λ t. edges_kept_at s m (step (edge_count s) a t)) (suc j)
    ∙ ap₂ (λ (x y : List _). x ++ y) (arc_whole s m a v d (suc j) h (omega arith) (omega arith)) (kept_none s m a (suc v) j h (omega arith) (omega arith))
    ∙ append-nil (arc_edges s m a (suc v))

-- the part's edges are those of the arc, listed from another one on
pub arc_listed : (s : Outline) (m : Coefficients) (a v : ℕ) → Arc s m a (suc v) →
    (xs : List Coefficients) × (ys : List Coefficients) × ((part_behind s m).edges ≡ xs ++ ys) × (arc_edges s m a (suc v) ≡ ys ++ xs)
arc_listed s m a v h =
    let r = as_listed (edges_kept_at s m) (edge_count s) a h.start in
    (r.0, r.1, r.2, sym (arc_whole s m a v (edge_count s - suc (suc v)) (edge_count s) h (omega (arith, h.not_all)) (omega arith)) ∙ r.3)

-- an item that stands in the list, read with another default
pub same_item : {A : Type 0} (xs : List A) (i : ℕ) (d e : A) → i < length xs → get_or xs i d ≡ get_or xs i e
same_item [] i d e h = absurd (omega arith)
same_item (x ∷ xs) zero d e h = refl
same_item (x ∷ xs) (suc i) d e h = same_item xs i d e (omega arith)

-- one more side
pub kept_step : (s : Outline) (m : Coefficients) (i : ℕ) (found : List Coefficients) (from to : Bool) (e : Coefficients) →
    found ≡ flat_map (edges_kept_at s m) (indices_below i) → from ≡ is_behind m (corner s (index_before (edge_count s) i)) → to ≡ is_behind m (corner s i) → i < edge_count s → e ≡ get_or s.edges i e →
    found ++ edges_kept_by from to e m ≡ flat_map (edges_kept_at s m) (indices_below (i + 1))
kept_step s m i found from to e f p q h x =
    ap₂ (λ (l : List Coefficients) (k : List Coefficients). l ++ k) f
    (ap₂ (λ (b c : Bool). edges_kept_by b c e m) p q ∙ ap (λ (v : Coefficients). edges_kept_by (is_behind m (corner s (index_before (edge_count s) i))) (is_behind m (corner s i)) v m) (x ∙ same_item s.edges i e missing_plane h))
    ∙ sym (flat_up_to (edges_kept_at s m) i)
    ∙ ap (λ (n : ℕ). flat_map (edges_kept_at s m) (indices_below n)) (sym (add-one i))
