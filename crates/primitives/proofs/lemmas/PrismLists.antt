-- The lists of corners and faces of a prism.
use Rattle.std.proofs.Common.{◌≡◌, ℕ, suc, ◌+◌, ◌-◌, ◌<◌, Bool, true, false, cond, eqb, List, [], ◌∷◌, ◌++◌, length, get_or, map, take, sym, ap, ap₂, ◌∙◌, subst, refl, arith, ℤ, All, inl, inr, append-nil, append_assoc}
use Rattle.std.specs.List.{flat_map, range_with_len}
use Rattle.std.proofs.lemmas.Bool.{cases_lt, eqb-false}
use Rattle.std.proofs.lemmas.List.{get_or-append-add, get_or-map, get_or_append_left, length-append, length-map, map-id, map_more}
use Rattle.std.proofs.lemmas.List.Concat.{flat_map-append}
use Rattle.std.proofs.lemmas.List.Elements.{All-append, All-cons, All-head, All-nil, All-tail}
use Rattle.std.proofs.lemmas.List.FromFn.{get_or-range_with_len, length-range_with_len, map-range_with_len_more}
use Rattle.plane_predicate.specs.Space.{point_at}
use Rattle.primitives.specs.Shapes.{mesh_point}
use Rattle.primitives.proofs.lemmas.Moves.{whole}
use Rattle.primitives.specs.Polygons.{x_of, y_of, polygon_point}
use Rattle.primitives.specs.Prisms.{at_height, is_same_flat_point, side_over, sides_over, prism_faces, prism_points}
use Rattle.plane_predicate.specs.Indices.{index_after}

-- ---- the corners
pub length_points : (points : List (List ℤ)) (low high : ℤ) → length (prism_points points low high) ≡ length points + length points
length_points points low high = omega (arith, length-append (map (at_height low) points) (map (at_height high) points), length-map points (at_height low), length-map points (at_height high))

pub low_corner : (points : List (List ℤ)) (low high : ℤ) (i : ℕ) → i < length points → mesh_point (prism_points points low high) i ≡ whole (x_of (polygon_point points i)) (y_of (polygon_point points i)) low
low_corner points low high i lt =
    ap point_at (
    get_or_append_left (map (at_height low) points) (map (at_height high) points) [] i (omega (arith, lt, length-map points (at_height low)))
    ∙ get_or-map (at_height low) points i [] [] lt
    )

pub high_corner : (points : List (List ℤ)) (low high : ℤ) (i : ℕ) → i < length points → mesh_point (prism_points points low high) (length points + i) ≡ whole (x_of (polygon_point points i)) (y_of (polygon_point points i)) high
high_corner points low high i lt =
    ap point_at (
    ap (λ (n : ℕ). get_or (prism_points points low high) (n + i) []) (sym (length-map points (at_height low)))
    ∙ get_or-append-add (map (at_height low) points) (map (at_height high) points) i []
    ∙ get_or-map (at_height high) points i [] [] lt
    )

-- what holds of each point at both ends holds of each corner
pub each_corner : (P : ℕ → Type 0) (n : ℕ) → ((i : ℕ) → i < n → P i) → ((i : ℕ) → i < n → P (n + i)) → (i : ℕ) → i < n + n → P i
each_corner P n low high i lt =
    elim (cases_lt i n) [
      | inl less ↦ low i less
      | inr more ↦ (let e : n + (i - n) ≡ i = omega arith in subst P e (high (i - n) (omega arith)))
    ]

-- ---- the faces
pub all_range : (P : ℕ → Type 0) (a n : ℕ) → ((i : ℕ) → i < n → P (a + i)) → All P (range_with_len a n)
all_range P a n h = λ k d lt. (let less : k < n = omega (arith, lt, length-range_with_len a n) in subst P (sym (get_or-range_with_len a n k d less)) (h k less))

all_flat_map : {X A : Type 0} (P : A → Type 0) (f : X → List A) (xs : List X) → All (λ (x : X). All P (f x)) xs → All P (flat_map f xs)
all_flat_map P f [] h = All-nil P
all_flat_map {X} P f (x ∷ xs) h = All-append P (f x) (flat_map f xs) (All-head (λ (y : X). All P (f y)) x xs h) (all_flat_map P f xs (All-tail (λ (y : X). All P (f y)) x xs h))

all_cond : {A : Type 0} (P : A → Type 0) (x : A) (b : Bool) → (b ≡ false → P x) → All P (cond b [] (x ∷ []))
all_cond P x true h = All-nil P
all_cond P x false h = All-cons P x [] (h refl) (All-nil P)

-- the side over the way from one point to another one of n
abbrev pub side_face : ℕ → ℕ → ℕ → List ℕ
side_face n i j = i ∷ j ∷ (n + j) ∷ (n + i) ∷ []

-- the side over point i, with i as an item of the range
all_from_zero : (P : List ℕ → Type 0) (points : List (List ℤ)) → ((i : ℕ) → i < length points → is_same_flat_point (polygon_point points i) (polygon_point points (index_after (length points) i)) ≡ false → P (side_face (length points) i (index_after (length points) i))) → (i : ℕ) → i < length points → All P (side_over points (0 + i))
all_from_zero P points h i lt =
    let e : i ≡ 0 + i = omega arith in
    subst (λ (k : ℕ). All P (side_over points k)) e
    (all_cond P (side_face (length points) i (index_after (length points) i)) (is_same_flat_point (polygon_point points i) (polygon_point points (index_after (length points) i))) (h i lt))

pub all_sides : (P : List ℕ → Type 0) (points : List (List ℤ)) → ((i : ℕ) → i < length points → is_same_flat_point (polygon_point points i) (polygon_point points (index_after (length points) i)) ≡ false → P (side_face (length points) i (index_after (length points) i))) → All P (sides_over points (length points))
all_sides P points h =
    all_flat_map P (side_over points) (range_with_len 0 (length points))
    (all_range (λ (i : ℕ). All P (side_over points i)) 0 (length points) (λ i lt. all_from_zero P points h i lt))

pub all_faces : (P : List ℕ → Type 0) (points : List (List ℤ)) → All P (sides_over points (length points)) → P (range_with_len 0 (length points)) → P (range_with_len (length points) (length points)) → All P (prism_faces points)
all_faces P points sides low high =
    All-append P (sides_over points (length points)) (range_with_len 0 (length points) ∷ range_with_len (length points) (length points) ∷ []) sides
    (All-cons P (range_with_len 0 (length points)) (range_with_len (length points) (length points) ∷ []) low (All-cons P (range_with_len (length points) (length points)) [] high (All-nil P)))

pub low_face : (points : List (List ℤ)) → get_or (prism_faces points) (length (sides_over points (length points)) + 0) [] ≡ range_with_len 0 (length points)
low_face points = get_or-append-add (sides_over points (length points)) (range_with_len 0 (length points) ∷ range_with_len (length points) (length points) ∷ []) 0 []

pub high_face : (points : List (List ℤ)) → get_or (prism_faces points) (length (sides_over points (length points)) + 1) [] ≡ range_with_len (length points) (length points)
high_face points = get_or-append-add (sides_over points (length points)) (range_with_len 0 (length points) ∷ range_with_len (length points) (length points) ∷ []) 1 []

pub length_faces : (points : List (List ℤ)) → length (prism_faces points) ≡ length (sides_over points (length points)) + 2
length_faces points = length-append (sides_over points (length points)) (range_with_len 0 (length points) ∷ range_with_len (length points) (length points) ∷ [])

-- ---- the point that follows
after_case : (n i : ℕ) → i < n → (b : Bool) → eqb (suc i) n ≡ b → cond b 0 (suc i) < n
after_case n i lt true e = omega arith
after_case n i lt false e = let apart = eqb-false (suc i) n e in omega (arith, apart)

pub after_in : (n i : ℕ) → i < n → index_after n i < n
after_in n i lt = after_case n i lt (eqb (suc i) n) refl

-- ---- the steps of the loops
pub end_next : (points : List (List ℤ)) (i : ℕ) (z : ℤ) (first corners more : List (List ℤ)) → i < length points → corners ≡ first ++ map (at_height z) (take i points) → more ≡ corners ++ at_height z (polygon_point points i) ∷ [] → more ≡ first ++ map (at_height z) (take (i + 1) points)
end_next points i z first corners more lt ec em =
    em
    ∙ ap (λ (xs : List (List ℤ)). xs ++ at_height z (polygon_point points i) ∷ []) ec
    ∙ append_assoc first (map (at_height z) (take i points)) (at_height z (polygon_point points i) ∷ [])
    ∙ ap (λ (xs : List (List ℤ)). first ++ xs) (sym (map_more (at_height z) points i [] lt))

pub range_next : (a n : ℕ) → range_with_len a (n + 1) ≡ range_with_len a n ++ (a + n) ∷ []
range_next a n =
    sym (map-id (range_with_len a (n + 1)))
    ∙ map-range_with_len_more (λ (x : ℕ). x) a n (a + n) refl
    ∙ ap (λ (xs : List ℕ). xs ++ (a + n) ∷ []) (map-id (range_with_len a n))

pub sides_next : (points : List (List ℤ)) (i : ℕ) → sides_over points (i + 1) ≡ sides_over points i ++ side_over points i
sides_next points i =
    let e : 0 + i ≡ i = omega arith in
    ap (flat_map (side_over points)) (range_next 0 i)
    ∙ flat_map-append (side_over points) (range_with_len 0 i) ((0 + i) ∷ [])
    ∙ ap (λ (fs : List (List ℕ)). sides_over points i ++ fs) (append-nil (side_over points (0 + i)) ∙ ap (side_over points) e)

-- the side over one more point
pub side_added : (points : List (List ℤ)) (i j : ℕ) (sides more : List (List ℕ)) (face : List ℕ) → sides ≡ sides_over points i → j ≡ index_after (length points) i → face ≡ side_face (length points) i j → is_same_flat_point (polygon_point points i) (polygon_point points j) ≡ false → more ≡ sides ++ face ∷ [] → more ≡ sides_over points (i + 1)
side_added points i j sides more face es ej ef apart em =
    let n = length points in
    let fixed : is_same_flat_point (polygon_point points i) (polygon_point points (index_after n i)) ≡ false = subst (λ (k : ℕ). is_same_flat_point (polygon_point points i) (polygon_point points k) ≡ false) ej apart in
    let over : side_over points i ≡ face ∷ [] = ap (λ (b : Bool). cond b [] (side_face n i (index_after n i) ∷ [])) fixed ∙ ap (λ (f : List ℕ). f ∷ []) (sym (ef ∙ ap (side_face n i) ej)) in
    em ∙ ap₂ (λ (xs ys : List (List ℕ)). xs ++ ys) es (sym over) ∙ sym (sides_next points i)

-- no side over one more point, which is the same as the next one
pub side_skipped : (points : List (List ℤ)) (i j : ℕ) (sides more : List (List ℕ)) → sides ≡ sides_over points i → j ≡ index_after (length points) i → is_same_flat_point (polygon_point points i) (polygon_point points j) ≡ true → more ≡ sides → more ≡ sides_over points (i + 1)
side_skipped points i j sides more es ej same em =
    let n = length points in
    let fixed : is_same_flat_point (polygon_point points i) (polygon_point points (index_after n i)) ≡ true = subst (λ (k : ℕ). is_same_flat_point (polygon_point points i) (polygon_point points k) ≡ true) ej same in
    let over : side_over points i ≡ [] = ap (λ (b : Bool). cond b [] (side_face n i (index_after n i) ∷ [])) fixed in
    em ∙ es ∙ sym (append-nil (sides_over points i)) ∙ ap (λ (xs : List (List ℕ)). sides_over points i ++ xs) (sym over) ∙ sym (sides_next points i)
