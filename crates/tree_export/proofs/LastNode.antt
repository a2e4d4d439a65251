-- The last node of a tree other than Nothing is the tree itself.
use Rattle.std.proofs.Common.{◌≡◌, ◌⊎◌, ℕ, zero, suc, ◌-◌, ◌<◌, ◌≤◌, Bool, true, false, ◌||◌, cond, List, [], ◌∷◌, ◌++◌, length, get_or, refl, ap, ap₂, ◌∙◌, inl, inr, arith, eqb, length-append}
use Rattle.std.specs.List.{filter, list_any}
use Rattle.std.proofs.Math.Seq.{get_or-append_seam}
use Rattle.std.proofs.lemmas.Bool.{eq-eqb}
use Rattle.std.proofs.lemmas.Bool.Decides.{eqb_tells}
use Rattle.std.proofs.lemmas.List.Elements.{filter-append}
use Rattle.csg_tree.specs.HalfSpaceTrees.{Tree, nothing, leaf, tree_join}
use Rattle.csg_tree.specs.ProperTrees.{IsSomething}
use Rattle.csg_tree.specs.Numberings.{height, occurrences, by_height, is_same_tree, distinct_trees, nodes_of, tree_numbered}
use Rattle.csg_tree.proofs.lemmas.Sameness.{tree_true}
use Rattle.csg_tree.proofs.lemmas.Distinct.{distinct_push}

abbrev has_height : ℕ → Tree → Bool
has_height h tree = eqb (height tree) h

abbrev among : Tree → List Tree → Bool
among t ts = list_any (λ (x : Tree). is_same_tree x t) ts

-- a lower tree is no tree of height h
lower : (h : ℕ) (t : Tree) → height t < h → filter (has_height h) (t ∷ []) ≡ []
lower h t low = by_test (eqb_tells (height t) h)
  where
    by_test : ((eqb (height t) h ≡ true) × (height t ≡ h)) ⊎ ((eqb (height t) h ≡ false) × (height t ≡ h → ⊥)) →
        filter (has_height h) (t ∷ []) ≡ []
    by_test (inl d) = absurd (omega (arith, d.1, low))
    by_test (inr d) = ap (λ (b : Bool). cond b (t ∷ []) []) d.0

none_of_height : (h : ℕ) (f : Tree) → height f < h → filter (has_height h) (occurrences f) ≡ []
none_of_height h nothing low = refl
none_of_height h (leaf planes) low = lower h (leaf planes) low
none_of_height h (tree_join op l r) low =
    filter-append (has_height h) (occurrences l ++ occurrences r) (tree_join op l r ∷ [])
    ∙ ap₂ (λ (xs ys : List Tree). xs ++ ys)
    (filter-append (has_height h) (occurrences l) (occurrences r)
    ∙ ap₂ (λ (xs ys : List Tree). xs ++ ys) (none_of_height h l (omega (arith, low))) (none_of_height h r (omega (arith, low))))
    (lower h (tree_join op l r) low)

-- of a tree's subtrees it alone has its height
alone : (t : Tree) → filter (has_height (height t)) (t ∷ []) ≡ t ∷ []
alone t = ap (λ (b : Bool). cond b (t ∷ []) []) (eq-eqb (height t) (height t) refl)

highest : (f : Tree) → IsSomething f → filter (has_height (height f)) (occurrences f) ≡ f ∷ []
highest nothing some = absurd some
highest (leaf planes) some = alone (leaf planes)
highest (tree_join op l r) some =
    let h = height (tree_join op l r) in
    filter-append (has_height h) (occurrences l ++ occurrences r) (tree_join op l r ∷ [])
    ∙ ap₂ (λ (xs ys : List Tree). xs ++ ys)
    (filter-append (has_height h) (occurrences l) (occurrences r)
    ∙ ap₂ (λ (xs ys : List Tree). xs ++ ys) (none_of_height h l (omega arith)) (none_of_height h r (omega arith)))
    (alone (tree_join op l r))

-- a tree is among none that are lower
among_append : (t : Tree) (xs ys : List Tree) → among t xs ≡ false → among t ys ≡ false → among t (xs ++ ys) ≡ false
among_append t [] ys h g = g
among_append t (x ∷ xs) ys h g = by_test (is_same_tree x t) (among t xs) h (λ (e : among t xs ≡ false). among_append t xs ys e g)
  where
    by_test : (b c : Bool) → (b || c) ≡ false → (c ≡ false → among t (xs ++ ys) ≡ false) → (b || among t (xs ++ ys)) ≡ false
    by_test true c e more = e
    by_test false c e more = more e

among_level : (t : Tree) (k : ℕ) (ts : List Tree) → k < height t → among t (filter (has_height k) ts) ≡ false
among_level t k [] low = refl
among_level t k (x ∷ ts) low = by_height_of (eqb_tells (height x) k) (among_level t k ts low)
  where
    other : (b : Bool) → is_same_tree x t ≡ b → height x ≡ k → among t (filter (has_height k) ts) ≡ false → (b || among t (filter (has_height k) ts)) ≡ false
    other true e at more = absurd (omega (arith, ap height (tree_true x t e), at, low))
    other false e at more = more

    by_height_of : ((eqb (height x) k ≡ true) × (height x ≡ k)) ⊎ ((eqb (height x) k ≡ false) × (height x ≡ k → ⊥)) →
        among t (filter (has_height k) ts) ≡ false → among t (filter (has_height k) (x ∷ ts)) ≡ false
    by_height_of (inl d) more =
        ap (λ (b : Bool). among t (cond b (x ∷ filter (has_height k) ts) (filter (has_height k) ts))) d.0
        ∙ other (is_same_tree x t) refl d.1 more
    by_height_of (inr d) more = ap (λ (b : Bool). among t (cond b (x ∷ filter (has_height k) ts) (filter (has_height k) ts))) d.0 ∙ more

among_lower : (t : Tree) (n : ℕ) (ts : List Tree) → n ≤ height t → among t (by_height n ts) ≡ false
among_lower t zero ts low = refl
among_lower t (suc n) ts low =
    among_append t (by_height n ts) (filter (has_height n) ts) (among_lower t n ts (omega (arith, low))) (among_level t n ts (omega (arith, low)))

-- so it is the last one
nodes_end : (f : Tree) → IsSomething f → nodes_of f ≡ distinct_trees (by_height (height f) (occurrences f)) ++ f ∷ []
nodes_end f some =
    let front = by_height (height f) (occurrences f) in
    ap (λ (xs : List Tree). distinct_trees (front ++ xs)) (highest f some)
    ∙ distinct_push front f
    ∙ ap (λ (b : Bool). cond b (distinct_trees front) (distinct_trees front ++ f ∷ [])) (among_lower f (height f) (occurrences f) (omega arith))

pub some_node : (f : Tree) → IsSomething f → 0 < length (nodes_of f)
some_node f some =
    omega (arith, ap length (nodes_end f some), length-append (distinct_trees (by_height (height f) (occurrences f))) (f ∷ []))

pub last_node : (f : Tree) → IsSomething f → tree_numbered (nodes_of f) (length (nodes_of f)) ≡ f
last_node f some =
    let front = distinct_trees (by_height (height f) (occurrences f)) in
    let place : length (nodes_of f) - 1 ≡ length front =
    omega (arith, ap length (nodes_end f some), length-append front (f ∷ [])) in
    ap₂ (λ (xs : List Tree) (k : ℕ). get_or xs k nothing) (nodes_end f some) place
    ∙ get_or-append_seam front f [] nothing
