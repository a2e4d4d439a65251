-- Trees in order of height.
use Rattle.std.proofs.Common.{◌≡◌, ◌⊎◌, ℕ, zero, suc, ◌+◌, ◌-◌, ◌<◌, ◌≤◌, Bool, true, false, not, cond, List, [], ◌∷◌, ◌++◌, length, get_or, map, refl, sym, ap, ap₂, ◌∙◌, inl, inr, arith, eqb, append_assoc, append-nil, length-append}
use Rattle.std.specs.List.{filter}
use Rattle.std.proofs.lemmas.Bool.{cases_lt, eq-eqb}
use Rattle.std.proofs.lemmas.Bool.Decides.{eqb_tells}
use Rattle.std.proofs.lemmas.List.{length-map, get_or_at}
use Rattle.csg_tree.specs.declared.node.StoredNode.{StoredNode}
use Rattle.csg_tree.specs.declared.node.StoredNode.TheVariants.{Leaf, Join}
use Rattle.csg_tree.specs.HalfSpaceTrees.{Tree, nothing}
use Rattle.csg_tree.specs.Numberings.{height, by_height, distinct_trees, is_same_tree, tree_numbered, IsNumberIn}
use Rattle.csg_tree.specs.Nodes.{tree_of_node, IsOver}
use Rattle.csg_tree.specs.Levels.{numbers_from, numbers_of_height}
use Rattle.csg_tree.specs.Interned.{IsPartNumbered, IsNodeReady, StayPlaced}

abbrev pub has_height : ℕ → Tree → Bool
has_height h tree = eqb (height tree) h

-- the trees of the numbers of a height
map_from : (front ts : List Tree) (n h : ℕ) → n ≡ length front + 1 →
    map (tree_numbered (front ++ ts)) (numbers_from n h ts) ≡ filter (has_height h) ts
map_from front [] n h e = refl
map_from front (t ∷ ts) n h e =
    let all = front ++ t ∷ ts in
    let whole : all ≡ (front ++ t ∷ []) ++ ts = sym (append_assoc front (t ∷ []) ts) in
    let here : tree_numbered all n ≡ t = get_or_at front t ts nothing (n - 1) (omega (arith, e)) in
    let rest : map (tree_numbered all) (numbers_from (suc n) h ts) ≡ filter (has_height h) ts =
    ap (λ (us : List Tree). map (tree_numbered us) (numbers_from (suc n) h ts)) whole
    ∙ map_from (front ++ t ∷ []) ts (suc n) h (omega (arith, e, length-append front (t ∷ []))) in
    by_test (has_height h t) (numbers_from (suc n) h ts) (filter (has_height h) ts) all here rest
  where
    by_test : (b : Bool) (ms : List ℕ) (us all : List Tree) → tree_numbered all n ≡ t → map (tree_numbered all) ms ≡ us →
        map (tree_numbered all) (cond b (n ∷ ms) ms) ≡ cond b (t ∷ us) us
    by_test true ms us all here rest = ap₂ (λ (x : Tree) (xs : List Tree). x ∷ xs) here rest
    by_test false ms us all here rest = rest

pub map_level : (h : ℕ) (ts : List Tree) → map (tree_numbered ts) (numbers_of_height h ts) ≡ filter (has_height h) ts
map_level h ts = map_from [] ts 1 h (omega arith)

-- a number at a place of some numbers is that of a tree of height h
abbrev pub IsOfHeight : ℕ → ℕ → List Tree → List ℕ → ℕ → Type 0
IsOfHeight n h ts ms j = (i : ℕ) × (get_or ms j 0 ≡ n + i) × (i < length ts) × (height (get_or ts i nothing) ≡ h)

-- the numbers of a height are those of the trees of that height
member_from : (n h : ℕ) (ts : List Tree) (j : ℕ) → j < length (numbers_from n h ts) →
    IsOfHeight n h ts (numbers_from n h ts) j
member_from n h [] j within = absurd (omega arith)
member_from n h (t ∷ ts) j within = by_test (λ k k_in. member_from (suc n) h ts k k_in) (eqb_tells (height t) h) j within
  where
    later : (ms : List ℕ) (k j : ℕ) → get_or ms j 0 ≡ get_or (numbers_from (suc n) h ts) k 0 →
        IsOfHeight (suc n) h ts (numbers_from (suc n) h ts) k → IsOfHeight n h (t ∷ ts) ms j
    later ms k j same at = (suc at.0, omega (arith, same, at.1), omega (arith, at.2), at.3)

    by_test : ((k : ℕ) → k < length (numbers_from (suc n) h ts) →
        IsOfHeight (suc n) h ts (numbers_from (suc n) h ts) k) →
        ((eqb (height t) h ≡ true) × (height t ≡ h)) ⊎ ((eqb (height t) h ≡ false) × (height t ≡ h → ⊥)) →
        (j : ℕ) → j < length (numbers_from n h (t ∷ ts)) → IsOfHeight n h (t ∷ ts) (numbers_from n h (t ∷ ts)) j
    by_test more (inl d) zero within' =
        let e : numbers_from n h (t ∷ ts) ≡ n ∷ numbers_from (suc n) h ts = ap (λ (b : Bool). cond b (n ∷ numbers_from (suc n) h ts) (numbers_from (suc n) h ts)) d.0 in
        let p : n ≡ n + 0 = omega arith in
        (0, ap (λ (ms : List ℕ). get_or ms 0 0) e ∙ p, omega arith, d.1)
    by_test more (inl d) (suc k) within' =
        let e : numbers_from n h (t ∷ ts) ≡ n ∷ numbers_from (suc n) h ts = ap (λ (b : Bool). cond b (n ∷ numbers_from (suc n) h ts) (numbers_from (suc n) h ts)) d.0 in
        later (numbers_from n h (t ∷ ts)) k (suc k) (ap (λ (ms : List ℕ). get_or ms (suc k) 0) e) (more k (omega (arith, ap length e)))
    by_test more (inr d) j within' =
        let e : numbers_from n h (t ∷ ts) ≡ numbers_from (suc n) h ts = ap (λ (b : Bool). cond b (n ∷ numbers_from (suc n) h ts) (numbers_from (suc n) h ts)) d.0 in
        later (numbers_from n h (t ∷ ts)) j j (ap (λ (ms : List ℕ). get_or ms j 0) e) (more j (omega (arith, ap length e)))

pub level_member : (h : ℕ) (ts : List Tree) (j : ℕ) → j < length (numbers_of_height h ts) →
    IsNumberIn ts (get_or (numbers_of_height h ts) j 0) × (height (tree_numbered ts (get_or (numbers_of_height h ts) j 0)) ≡ h)
level_member h ts j within =
    let at = member_from 1 h ts j within in
    let place : at.0 ≡ get_or (numbers_of_height h ts) j 0 - 1 = omega (arith, at.1) in
    ((omega (arith, at.1), omega (arith, at.1, at.2)), ap (λ (i : ℕ). height (get_or ts i nothing)) (sym place) ∙ at.3)

-- and all of them
has_from : (n h : ℕ) (ts : List Tree) (i : ℕ) → i < length ts → height (get_or ts i nothing) ≡ h →
    (j : ℕ) × (j < length (numbers_from n h ts)) × (get_or (numbers_from n h ts) j 0 ≡ n + i)
has_from n h [] i within e = absurd (omega arith)
has_from n h (t ∷ ts) zero within e =
    let is : numbers_from n h (t ∷ ts) ≡ n ∷ numbers_from (suc n) h ts =
    ap (λ (b : Bool). cond b (n ∷ numbers_from (suc n) h ts) (numbers_from (suc n) h ts)) (eq-eqb (height t) h e) in
    let p : n ≡ n + 0 = omega arith in
    (0, omega (arith, ap length is), ap (λ (ms : List ℕ). get_or ms 0 0) is ∙ p)
has_from n h (t ∷ ts) (suc i) within e = by_test (eqb (height t) h) (has_from (suc n) h ts i (omega arith) e)
  where
    by_test : (b : Bool) → (j : ℕ) × (j < length (numbers_from (suc n) h ts)) × (get_or (numbers_from (suc n) h ts) j 0 ≡ suc n + i) →
        (j : ℕ) × (j < length (cond b (n ∷ numbers_from (suc n) h ts) (numbers_from (suc n) h ts)))
        × (get_or (cond b (n ∷ numbers_from (suc n) h ts) (numbers_from (suc n) h ts)) j 0 ≡ n + suc i)
    by_test true at = (suc at.0, omega (arith, at.1), omega (arith, at.2))
    by_test false at = (at.0, at.1, omega (arith, at.2))

pub level_has : (h : ℕ) (ts : List Tree) (m : ℕ) → IsNumberIn ts m → height (tree_numbered ts m) ≡ h →
    (j : ℕ) × (j < length (numbers_of_height h ts)) × (get_or (numbers_of_height h ts) j 0 ≡ m)
level_has h ts m within e =
    let at = has_from 1 h ts (m - 1) (omega (arith, within.0, within.1)) e in
    (at.0, at.1, omega (arith, at.2, within.0))

-- a node is ready where all lower trees are placed
pub ready_low : (ps ts : List Tree) (ns : List ℕ) (node : StoredNode) (h : ℕ) → IsOver ps node → height (tree_of_node ps node) ≡ h →
    ((m : ℕ) → IsNumberIn ps m → height (tree_numbered ps m) < h → IsPartNumbered ps ts ns m) → IsNodeReady ps ts ns node
ready_low ps ts ns (Leaf planes) h over e placed = tt
ready_low ps ts ns (Join op l r) h over e placed = (placed l over.0 (omega (arith, e)), placed r over.1 (omega (arith, e)))

pub ready_stay : (ps ts us : List Tree) (ns ms : List ℕ) (node : StoredNode) → IsOver ps node → StayPlaced ps ts ns us ms →
    IsNodeReady ps ts ns node → IsNodeReady ps us ms node
ready_stay ps ts us ns ms (Leaf planes) over stay ready = tt
ready_stay ps ts us ns ms (Join op l r) over stay ready = (stay l over.0 ready.0, stay r over.1 ready.1)

-- there are no more trees than before
filter_less : {X : Type 0} (p : X → Bool) (xs : List X) → length (filter p xs) ≤ length xs
filter_less p [] = omega arith
filter_less p (x ∷ xs) = by_test (p x) (filter p xs) (filter_less p xs)
  where
    by_test : (b : Bool) (ys : List _) → length ys ≤ length xs → length (cond b (x ∷ ys) ys) ≤ suc (length xs)
    by_test true ys h = omega arith
    by_test false ys h = omega arith

pub distinct_less : (ts : List Tree) → length (distinct_trees ts) ≤ length ts
distinct_less [] = omega arith
distinct_less (t ∷ ts) = omega (arith, distinct_less ts, filter_less (λ (u : Tree). not (is_same_tree t u)) (distinct_trees ts))

heights_less : (n : ℕ) (t : Tree) (ts : List Tree) →
    (height t < n → length (by_height n (t ∷ ts)) ≤ length (by_height n ts) + 1)
    × (n ≤ height t → length (by_height n (t ∷ ts)) ≤ length (by_height n ts))
heights_less zero t ts = (λ h. omega arith, λ h. omega arith)
heights_less (suc n) t ts = by_test (heights_less n t ts) (eqb_tells (height t) n)
  where
    grown : length (by_height (suc n) (t ∷ ts)) ≡ length (by_height n (t ∷ ts)) + length (filter (has_height n) (t ∷ ts))
    grown = length-append (by_height n (t ∷ ts)) (filter (has_height n) (t ∷ ts))

    old : length (by_height (suc n) ts) ≡ length (by_height n ts) + length (filter (has_height n) ts)
    old = length-append (by_height n ts) (filter (has_height n) ts)

    one : (b : Bool) → has_height n t ≡ b → length (filter (has_height n) (t ∷ ts)) ≡ length (cond b (t ∷ filter (has_height n) ts) (filter (has_height n) ts))
    one b e = ap (λ (c : Bool). length (cond c (t ∷ filter (has_height n) ts) (filter (has_height n) ts))) e

    by_test : (height t < n → length (by_height n (t ∷ ts)) ≤ length (by_height n ts) + 1)
        × (n ≤ height t → length (by_height n (t ∷ ts)) ≤ length (by_height n ts)) →
        ((eqb (height t) n ≡ true) × (height t ≡ n)) ⊎ ((eqb (height t) n ≡ false) × (height t ≡ n → ⊥)) →
        (height t < suc n → length (by_height (suc n) (t ∷ ts)) ≤ length (by_height (suc n) ts) + 1)
        × (suc n ≤ height t → length (by_height (suc n) (t ∷ ts)) ≤ length (by_height (suc n) ts))
    by_test less (inl d) =
        let e = one true d.0 in
        let g = grown in
        let o = old in
        let l = less.1 (omega (arith, d.1)) in
        (λ h. omega (arith, e, g, o, l), λ h. absurd (omega (arith, d.1)))
    by_test less (inr d) =
        let e = one false d.0 in
        let g = grown in
        let o = old in (
          λ h.
              let l = less.0 (omega (arith, d.1)) in omega (arith, e, g, o, l),
          λ h.
              let l = less.1 (omega arith) in omega (arith, e, g, o, l),
        )

pub by_height_less : (n : ℕ) (ts : List Tree) → length (by_height n ts) ≤ length ts
by_height_less n [] = none n
  where
    none : (n : ℕ) → length (by_height n []) ≤ 0
    none zero = omega arith
    none (suc n) = omega (arith, none n, length-append (by_height n []) [])
by_height_less n (t ∷ ts) = by_place (cases_lt (height t) n) (by_height_less n ts) (heights_less n t ts)
  where
    by_place : (height t < n) ⊎ (n ≤ height t) → length (by_height n ts) ≤ length ts →
        (height t < n → length (by_height n (t ∷ ts)) ≤ length (by_height n ts) + 1)
        × (n ≤ height t → length (by_height n (t ∷ ts)) ≤ length (by_height n ts)) → length (by_height n (t ∷ ts)) ≤ suc (length ts)
    by_place (inl h) less both = let l = both.0 h in omega (arith, l)
    by_place (inr h) less both = let l = both.1 h in omega (arith, l)

-- so the nodes of lower trees and those of a level are no more than the parts
pub level_less : (h : ℕ) (ts : List Tree) → length (distinct_trees (by_height h ts)) + length (numbers_of_height h ts) ≤ length ts
level_less h ts =
    let level : length (numbers_of_height h ts) ≡ length (filter (has_height h) ts) =
    sym (length-map (numbers_of_height h ts) (tree_numbered ts)) ∙ ap length (map_level h ts) in
    let grown : length (by_height (suc h) ts) ≡ length (by_height h ts) + length (filter (has_height h) ts) =
    length-append (by_height h ts) (filter (has_height h) ts) in
    omega (arith, level, grown, distinct_less (by_height h ts), by_height_less (suc h) ts)

-- no tree is above all heights
none_high : (n : ℕ) (ts : List Tree) → ((i : ℕ) → i < length ts → height (get_or ts i nothing) < n) → (h : ℕ) → n ≤ h →
    filter (has_height h) ts ≡ []
none_high n [] low h above = refl
none_high n (t ∷ ts) low h above = by_test (eqb_tells (height t) h) (none_high n ts (λ i i_in. low (suc i) (omega arith)) h above)
  where
    by_test : ((eqb (height t) h ≡ true) × (height t ≡ h)) ⊎ ((eqb (height t) h ≡ false) × (height t ≡ h → ⊥)) →
        filter (has_height h) ts ≡ [] → filter (has_height h) (t ∷ ts) ≡ []
    by_test (inl d) rest = absurd (omega (arith, d.1, low 0 (omega arith)))
    by_test (inr d) rest = ap (λ (b : Bool). cond b (t ∷ filter (has_height h) ts) (filter (has_height h) ts)) d.0 ∙ rest

pub by_height_stops : (n k : ℕ) (ts : List Tree) → ((i : ℕ) → i < length ts → height (get_or ts i nothing) < n) →
    by_height (k + n) ts ≡ by_height n ts
by_height_stops n zero ts low = let e : 0 + n ≡ n = omega arith in ap (λ (m : ℕ). by_height m ts) e
by_height_stops n (suc k) ts low =
    let e : suc k + n ≡ suc (k + n) = omega arith in
    ap (λ (m : ℕ). by_height m ts) e
    ∙ ap₂ (λ (xs ys : List Tree). xs ++ ys) (by_height_stops n k ts low) (none_high n ts low (k + n) (omega arith))
    ∙ append-nil (by_height n ts)

pub by_height_same : (m n : ℕ) (ts : List Tree) → ((i : ℕ) → i < length ts → height (get_or ts i nothing) < m) →
    ((i : ℕ) → i < length ts → height (get_or ts i nothing) < n) → by_height m ts ≡ by_height n ts
by_height_same m n ts low_m low_n = by_place (cases_lt m n)
  where
    by_place : (m < n) ⊎ (n ≤ m) → by_height m ts ≡ by_height n ts
    by_place (inl h) =
        let e : (n - m) + m ≡ n = omega arith in
        sym (by_height_stops m (n - m) ts low_m) ∙ ap (λ (k : ℕ). by_height k ts) e
    by_place (inr h) =
        let e : m ≡ (m - n) + n = omega arith in
        ap (λ (k : ℕ). by_height k ts) e ∙ by_height_stops n (m - n) ts low_n
