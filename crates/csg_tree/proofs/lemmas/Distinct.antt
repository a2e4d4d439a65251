-- Distinct trees, one more at a time.
use Rattle.std.proofs.Common.{◌≡◌, ℕ, zero, suc, ◌-◌, ◌<◌, Bool, true, false, not, ◌||◌, cond, List, [], ◌∷◌, ◌++◌, length, get_or, refl, sym, ap, subst, ◌∙◌, true≢false, arith}
use Rattle.std.specs.List.{filter, list_any}
use Rattle.csg_tree.specs.HalfSpaceTrees.{Tree, nothing}
use Rattle.csg_tree.specs.Numberings.{is_same_tree, distinct_trees, HasNumber}
use Rattle.csg_tree.proofs.lemmas.Sameness.{tree_true, tree_itself}

abbrev others : Tree → Tree → Bool
others x t = not (is_same_tree x t)

abbrev among : Tree → List Tree → Bool
among t ts = list_any (λ (x : Tree). is_same_tree x t) ts

-- a test of trees is by what they are
same_flip : (x t : Tree) → is_same_tree x t ≡ is_same_tree t x
same_flip x t = by_both (is_same_tree x t) (is_same_tree t x) refl refl
  where
    by_both : (b c : Bool) → is_same_tree x t ≡ b → is_same_tree t x ≡ c → b ≡ c
    by_both true true eb ec = refl
    by_both true false eb ec =
        absurd (true≢false (sym (subst (λ (y : Tree). is_same_tree t y ≡ true) (sym (tree_true x t eb)) (tree_itself t)) ∙ ec))
    by_both false true eb ec =
        absurd (true≢false (sym (subst (λ (y : Tree). is_same_tree x y ≡ true) (sym (tree_true t x ec)) (tree_itself x)) ∙ eb))
    by_both false false eb ec = refl

filter_push : {X : Type 0} (p : X → Bool) (xs : List X) (y : X) → filter p (xs ++ y ∷ []) ≡ cond (p y) (filter p xs ++ y ∷ []) (filter p xs)
filter_push p [] y = by_test (p y)
  where
    by_test : (b : Bool) → cond b (y ∷ []) [] ≡ cond b (y ∷ []) []
    by_test b = refl
filter_push p (x ∷ xs) y = by_both (p x) (p y) (filter p (xs ++ y ∷ [])) (filter p xs) (filter_push p xs y)
  where
    by_both : (b c : Bool) (all front : List _) → all ≡ cond c (front ++ y ∷ []) front →
        cond b (x ∷ all) all ≡ cond c (cond b (x ∷ front) front ++ y ∷ []) (cond b (x ∷ front) front)
    by_both true true all front e = ap (λ zs. x ∷ zs) e
    by_both true false all front e = ap (λ zs. x ∷ zs) e
    by_both false true all front e = e
    by_both false false all front e = e

-- one tree more is added where it is not among them
pub distinct_push : (xs : List Tree) (t : Tree) → distinct_trees (xs ++ t ∷ []) ≡ cond (among t xs) (distinct_trees xs) (distinct_trees xs ++ t ∷ [])
distinct_push [] t = refl
distinct_push (x ∷ xs) t =
    by_both (is_same_tree x t) (among t xs) refl (distinct_trees (xs ++ t ∷ [])) (distinct_push xs t)
  where
    by_both : (b c : Bool) → is_same_tree x t ≡ b → (all : List Tree) → all ≡ cond c (distinct_trees xs) (distinct_trees xs ++ t ∷ []) →
        x ∷ filter (others x) all ≡ cond (b || c) (x ∷ filter (others x) (distinct_trees xs)) (x ∷ filter (others x) (distinct_trees xs) ++ t ∷ [])
    by_both true true e all h = ap (λ (zs : List Tree). x ∷ filter (others x) zs) h
    by_both false true e all h = ap (λ (zs : List Tree). x ∷ filter (others x) zs) h
    by_both true false e all h =
        ap (λ (zs : List Tree). x ∷ filter (others x) zs) h
        ∙ ap (λ (zs : List Tree). x ∷ zs) (filter_push (others x) (distinct_trees xs) t
        ∙ ap (λ (b : Bool). cond (not b) (filter (others x) (distinct_trees xs) ++ t ∷ []) (filter (others x) (distinct_trees xs))) e)
    by_both false false e all h =
        ap (λ (zs : List Tree). x ∷ filter (others x) zs) h
        ∙ ap (λ (zs : List Tree). x ∷ zs) (filter_push (others x) (distinct_trees xs) t
        ∙ ap (λ (b : Bool). cond (not b) (filter (others x) (distinct_trees xs) ++ t ∷ []) (filter (others x) (distinct_trees xs))) e)

-- the same trees are among the distinct ones
among_filter : (x t : Tree) (ts : List Tree) → is_same_tree x t ≡ false → among t (filter (others x) ts) ≡ among t ts
among_filter x t [] apart = refl
among_filter x t (y ∷ ts) apart = by_test (among_filter x t ts apart) (is_same_tree x y) refl
  where
    by_test : among t (filter (others x) ts) ≡ among t ts → (b : Bool) → is_same_tree x y ≡ b → among t (filter (others x) (y ∷ ts)) ≡ among t (y ∷ ts)
    by_test rest true e =
        let other : is_same_tree y t ≡ false = subst (λ (z : Tree). is_same_tree z t ≡ false) (tree_true x y e) apart in
        ap (λ (b : Bool). among t (cond (not b) (y ∷ filter (others x) ts) (filter (others x) ts))) e
        ∙ rest ∙ ap (λ (b : Bool). b || among t ts) (sym other)
    by_test rest false e =
        ap (λ (b : Bool). among t (cond (not b) (y ∷ filter (others x) ts) (filter (others x) ts))) e
        ∙ ap (λ (b : Bool). is_same_tree y t || b) rest

pub among_distinct : (t : Tree) (ts : List Tree) → among t (distinct_trees ts) ≡ among t ts
among_distinct t [] = refl
among_distinct t (x ∷ ts) = by_test (among_distinct t ts) (is_same_tree x t) refl
  where
    by_test : among t (distinct_trees ts) ≡ among t ts → (b : Bool) → is_same_tree x t ≡ b → (is_same_tree x t || among t (filter (others x) (distinct_trees ts))) ≡ (is_same_tree x t || among t ts)
    by_test rest true e = ap (λ (b : Bool). b || among t (filter (others x) (distinct_trees ts))) e ∙ sym (ap (λ (b : Bool). b || among t ts) e)
    by_test rest false e = ap (λ (b : Bool). is_same_tree x t || b) (among_filter x t (distinct_trees ts) e ∙ rest)

-- a tree is among those that have a number
pub number_among : (ts : List Tree) (t : Tree) (i : ℕ) → i < length ts → get_or ts i nothing ≡ t → among t ts ≡ true
number_among [] t i within e = absurd (omega arith)
number_among (x ∷ ts) t zero within e = ap (λ (b : Bool). b || among t ts) (subst (λ (y : Tree). is_same_tree x y ≡ true) e (tree_itself x))
number_among (x ∷ ts) t (suc i) within e = or_true (is_same_tree x t) (among t ts) (number_among ts t i (omega arith) e)
  where
    or_true : (b c : Bool) → c ≡ true → (b || c) ≡ true
    or_true true c h = refl
    or_true false c h = h

pub among_number : (ts : List Tree) (t : Tree) → among t ts ≡ true → (i : ℕ) × (i < length ts) × (get_or ts i nothing ≡ t)
among_number [] t h = absurd (true≢false (sym h))
among_number (x ∷ ts) t h = by_test (λ r. among_number ts t r) (is_same_tree x t) refl
  where
    by_test : (among t ts ≡ true → (i : ℕ) × (i < length ts) × (get_or ts i nothing ≡ t)) → (b : Bool) → is_same_tree x t ≡ b → (i : ℕ) × (i < length (x ∷ ts)) × (get_or (x ∷ ts) i nothing ≡ t)
    by_test more true e = (0, omega arith, tree_true x t e)
    by_test more false e =
        let rest = more (sym (ap (λ (b : Bool). b || among t ts) e) ∙ h) in
        (suc rest.0, omega (arith, rest.1), rest.2)

-- one tree more changes nothing where it has a number
pub distinct_known : (ts trees : List Tree) (t : Tree) (n : ℕ) → ts ≡ distinct_trees trees → HasNumber ts t n → ts ≡ distinct_trees (trees ++ t ∷ [])
distinct_known ts trees t n e has =
    let here : among t ts ≡ true = number_among ts t (n - 1) (omega (arith, has.0.0, has.0.1)) has.1 in
    let before : among t trees ≡ true = sym (among_distinct t trees) ∙ ap (among t) (sym e) ∙ here in
    e ∙ sym (distinct_push trees t ∙ ap (λ (b : Bool). cond b (distinct_trees trees) (distinct_trees trees ++ t ∷ [])) before)

-- and is the last one where it has none
pub distinct_new : (ts trees : List Tree) (t : Tree) → ts ≡ distinct_trees trees → ((n : ℕ) → HasNumber ts t n → ⊥) →
    ts ++ t ∷ [] ≡ distinct_trees (trees ++ t ∷ [])
distinct_new ts trees t e none = by_test (among t trees) refl
  where
    by_test : (b : Bool) → among t trees ≡ b → ts ++ t ∷ [] ≡ distinct_trees (trees ++ t ∷ [])
    by_test true h =
        let at = among_number ts t (ap (among t) e ∙ among_distinct t trees ∙ h) in
        absurd (none (suc at.0) ((omega arith, omega (arith, at.1)), (let p : suc at.0 - 1 ≡ at.0 = omega arith in ap (λ (k : ℕ). get_or ts k nothing) p) ∙ at.2))
    by_test false h =
        ap (λ (xs : List Tree). xs ++ t ∷ []) e ∙ sym (distinct_push trees t ∙ ap (λ (b : Bool). cond b (distinct_trees trees) (distinct_trees trees ++ t ∷ [])) h)
