-- Numbering points one after another leaves each point once, by first appearance.
use Rattle.std.proofs.Common.{◌≡◌, Bool, true, false, cond, not, ◌||◌, ◌&&◌, List, [], ◌∷◌, ◌++◌, filter, refl, sym, ap, ap₂, ◌∙◌, subst, append_assoc, append-nil}
use Rattle.std.specs.List.{list_any}
use Rattle.std.specs.Cmp.{both_ways}
use Rattle.std.proofs.lemmas.Bool.{false≢true}
use Rattle.std.proofs.lemmas.List.Folds.{list_any-append}
use Rattle.indexmap.specs.IndexSet.{insert_key}
use Rattle.plane_predicate.specs.Space.{Coordinates, has_same_numbers}
use Rattle.off_text.specs.Texts.{distinct_points}
use Rattle.off_text.specs.Numbering.{with_points}
use Rattle.off_text.proofs.Numbers.{same_itself, same_equal}

-- the point is not numbered yet
abbrev is_new : List Coordinates → Coordinates → Bool
is_new vertices q = not (list_any (has_same_numbers q) vertices)

same_turned : (p q : Coordinates) → has_same_numbers p q ≡ true → has_same_numbers q p ≡ true
same_turned p q e = subst (λ (r : Coordinates). has_same_numbers r p ≡ true) (same_equal p q e) (same_itself p)

same_alike : (p q : Coordinates) → has_same_numbers p q ≡ has_same_numbers q p
same_alike p q = both_ways (has_same_numbers p q) (has_same_numbers q p) (same_turned p q) (same_turned q p)

filter-false : {X : Type 0} (f : X → Bool) (x : X) (b : Bool) (xs : List X) → filter f (cond b (x ∷ xs) xs) ≡ cond b (cond (f x) (x ∷ filter f xs) (filter f xs)) (filter f xs)
filter-false f x true xs = refl
filter-false f x false xs = refl

-- a test that another implies leaves nothing for it to do
filter_implied : {X : Type 0} (f g : X → Bool) → ((x : X) → f x ≡ true → g x ≡ true) → (xs : List X) → filter f (filter g xs) ≡ filter f xs
filter_implied f g h [] = refl
filter_implied f g h (x ∷ xs) =
    filter-false f x (g x) (filter g xs)
    ∙ ap (λ (l : List _). cond (g x) (cond (f x) (x ∷ l) l) l) (filter_implied f g h xs)
    ∙ drop_test x (f x) (g x) (filter f xs) (h x)
  where
    drop_test : {X : Type 0} (x : X) (f g : Bool) (l : List X) → (f ≡ true → g ≡ true) → cond g (cond f (x ∷ l) l) l ≡ cond f (x ∷ l) l
    drop_test x f true l h = refl
    drop_test x true false l h = absurd (false≢true (h refl))
    drop_test x false false l h = refl

filter_both : {X : Type 0} (h f g : X → Bool) → ((x : X) → h x ≡ (f x && g x)) → (xs : List X) → filter h xs ≡ filter f (filter g xs)
filter_both h f g e [] = refl
filter_both h f g e (x ∷ xs) =
    ap₂ (λ (b : Bool) (l : List _). cond b (x ∷ l) l) (e x) (filter_both h f g e xs)
    ∙ sym (filter-false f x (g x) (filter g xs) ∙ two_tests x (f x) (g x) (filter f (filter g xs)))
  where
    two_tests : {X : Type 0} (x : X) (f g : Bool) (l : List X) → cond g (cond f (x ∷ l) l) l ≡ cond (f && g) (x ∷ l) l
    two_tests x true true l = refl
    two_tests x true false l = refl
    two_tests x false true l = refl
    two_tests x false false l = refl

filter-all : {X : Type 0} (xs : List X) → filter (λ x. true) xs ≡ xs
filter-all [] = refl
filter-all (x ∷ xs) = ap (λ (l : List _). x ∷ l) (filter-all xs)

neither : (a b : Bool) → not (a || (b || false)) ≡ (not a && not b)
neither true b = refl
neither false true = refl
neither false false = refl

-- a new point is none of the vertices
other_than : (vertices : List Coordinates) (p q : Coordinates) → list_any (has_same_numbers p) vertices ≡ true → is_new vertices q ≡ true → not (has_same_numbers p q) ≡ true
other_than vertices p q known new = by (has_same_numbers p q) refl
  where
    by : (b : Bool) → has_same_numbers p q ≡ b → not b ≡ true
    by true e = absurd (false≢true (ap not (sym known) ∙ subst (λ (r : Coordinates). not (list_any (has_same_numbers r) vertices) ≡ true) (sym (same_equal p q e)) new))
    by false e = refl

grown_step : (p : Coordinates) (vertices rest : List Coordinates) (b : Bool) → list_any (has_same_numbers p) vertices ≡ b →
    cond b vertices (vertices ++ p ∷ []) ++ filter (is_new (cond b vertices (vertices ++ p ∷ []))) rest
    ≡ vertices ++ cond (not b) (p ∷ filter (is_new vertices) (filter (λ q. not (has_same_numbers p q)) rest)) (filter (is_new vertices) (filter (λ q. not (has_same_numbers p q)) rest))
grown_step p vertices rest true e =
    ap (λ (l : List Coordinates). vertices ++ l) (sym (filter_implied (is_new vertices) (λ q. not (has_same_numbers p q)) (λ q. other_than vertices p q e) rest))
grown_step p vertices rest false e =
    append_assoc vertices (p ∷ []) (filter (is_new (vertices ++ p ∷ [])) rest)
    ∙ ap (λ (l : List Coordinates). vertices ++ p ∷ l)
    (filter_both (is_new (vertices ++ p ∷ [])) (is_new vertices) (λ q. not (has_same_numbers p q))
    (λ q. ap not (list_any-append (has_same_numbers q) vertices (p ∷ []))
    ∙ ap (λ (b : Bool). not (list_any (has_same_numbers q) vertices || (b || false))) (same_alike q p)
    ∙ neither (list_any (has_same_numbers q) vertices) (has_same_numbers p q)) rest)

with_points-distinct_points : (points vertices : List Coordinates) → with_points vertices points ≡ vertices ++ filter (is_new vertices) (distinct_points points)
with_points-distinct_points [] vertices = sym (append-nil vertices)
with_points-distinct_points (p ∷ points) vertices =
    with_points-distinct_points points (insert_key has_same_numbers vertices p) ∙ grown_step p vertices (distinct_points points) (list_any (has_same_numbers p) vertices) refl

pub grown_from_none : (points : List Coordinates) → with_points [] points ≡ distinct_points points
grown_from_none points = with_points-distinct_points points [] ∙ filter-all (distinct_points points)
