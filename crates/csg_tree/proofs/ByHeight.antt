-- Numbers of trees by height, one more at a time.
use Rattle.std.proofs.Common.{◌≡◌, ℕ, zero, suc, ◌+◌, ◌-◌, ◌<◌, ◌≤◌, max, Bool, true, false, cond, List, [], ◌∷◌, ◌++◌, length, get_or, set, map, refl, sym, ap, ap₂, subst, ◌∙◌, inl, inr, arith, Vec, eqb}
use Rattle.std.proofs.lemmas.Bool.Decides.{eqb_tells}
use Rattle.std.proofs.lemmas.List.{map-set, get_or-set_same, get_or-set_other, length-map, map-append}
use Rattle.std.proofs.Math.ListN.{get_or-map}
use Rattle.std.proofs.lemmas.List as at
use Rattle.csg_tree.specs.declared.node.StoredNode.{StoredNode}
use Rattle.csg_tree.specs.declared.node.StoredNode.TheVariants.{Leaf, Join}
use Rattle.csg_tree.specs.HalfSpaceTrees.{Tree, nothing}
use Rattle.csg_tree.specs.Numberings.{height}
use Rattle.csg_tree.specs.Nodes.{tree_of_node, IsOver}
use Rattle.csg_tree.specs.Levels.{numbers_from, numbers_of_height, level_at, height_over}

-- a number at the end of one of the levels
pub level_set : {Z : Type 0} (levels : List (Vec ℕ Z)) (i : ℕ) (v : Vec ℕ Z) (x : ℕ) → i < length levels →
    v.items ≡ level_at levels i ++ x ∷ [] → (h : ℕ) →
    level_at (set levels i v) h ≡ cond (eqb i h) (level_at levels h ++ x ∷ []) (level_at levels h)
level_set {Z} levels i v x within e h =
    let items = λ (level : Vec ℕ Z). level.items in
    let moved = map-set items levels i v in
    elim (eqb_tells i h) as (λ _. level_at (set levels i v) h ≡ cond (eqb i h) (level_at levels h ++ x ∷ []) (level_at levels h)) [
      | inl d ↦
          let here : get_or (set (map items levels) i v.items) i [] ≡ v.items =
          get_or-set_same (map items levels) i v.items [] (omega (arith, length-map levels items)) in
          rw d.0
          (subst (λ (j : ℕ). level_at (set levels i v) j ≡ level_at levels j ++ x ∷ []) d.1
          (ap (λ (ls : List (List ℕ)). get_or ls i []) moved ∙ here ∙ e))
      | inr d ↦
          rw d.0
          (ap (λ (ls : List (List ℕ)). get_or ls h []) moved
          ∙ get_or-set_other (map items levels) i h v.items [] (λ same. d.1 (sym same)))
    ]

-- an empty level above all others
pub level_push : {Z : Type 0} (levels : List (Vec ℕ Z)) (v : Vec ℕ Z) → v.items ≡ [] → (h : ℕ) →
    level_at (levels ++ v ∷ []) h ≡ level_at levels h
level_push [] v e zero = e
level_push [] v e (suc h) = refl
level_push (l ∷ levels) v e zero = refl
level_push (l ∷ levels) v e (suc h) = level_push levels v e h

-- one tree more
more_by : (b c : Bool) (n m k : ℕ) (xs ys : List ℕ) → m ≡ k → xs ≡ cond c (ys ++ m ∷ []) ys →
    cond b (n ∷ xs) xs ≡ cond c (cond b (n ∷ ys) ys ++ k ∷ []) (cond b (n ∷ ys) ys)
more_by true true n m k xs ys e h = ap (λ (zs : List ℕ). n ∷ zs) h ∙ ap (λ (j : ℕ). n ∷ ys ++ j ∷ []) e
more_by true false n m k xs ys e h = ap (λ (zs : List ℕ). n ∷ zs) h
more_by false true n m k xs ys e h = h ∙ ap (λ (j : ℕ). ys ++ j ∷ []) e
more_by false false n m k xs ys e h = h

first_by : (b : Bool) (n k : ℕ) → n ≡ k → cond b (n ∷ []) [] ≡ cond b ([] ++ k ∷ []) []
first_by true n k e = ap (λ (j : ℕ). j ∷ []) e
first_by false n k e = refl

pub numbers_push : (n h : ℕ) (ts : List Tree) (t : Tree) →
    numbers_from n h (ts ++ t ∷ [])
    ≡ cond (eqb (height t) h) (numbers_from n h ts ++ (n + length ts) ∷ []) (numbers_from n h ts)
numbers_push n h [] t = first_by (eqb (height t) h) n (n + 0) (omega arith)
numbers_push n h (s ∷ ts) t =
    more_by (eqb (height s) h) (eqb (height t) h) n (suc n + length ts) (n + suc (length ts))
    (numbers_from (suc n) h (ts ++ t ∷ [])) (numbers_from (suc n) h ts) (omega arith) (numbers_push (suc n) h ts t)

-- the height of a node
pub height_of_node : (ts : List Tree) (node : StoredNode) → height_over (map height ts) node ≡ height (tree_of_node ts node)
height_of_node ts (Leaf planes) = refl
height_of_node ts (Join op left right) =
    ap₂ (λ m n. 1 + max m n) (get_or-map height ts (left - 1) nothing) (get_or-map height ts (right - 1) nothing)

-- a node is at most one higher than all nodes below
pub over_low : (hs : List ℕ) (node : StoredNode) (n : ℕ) → IsOver hs node →
    ((k : ℕ) → k < length hs → get_or hs k 0 < n) → height_over hs node ≤ n
over_low hs (Leaf planes) n over low = omega arith
over_low hs (Join op left right) n over low =
    let a = low (left - 1) (omega (arith, over.0.0, over.0.1)) in
    let b = low (right - 1) (omega (arith, over.1.0, over.1.1)) in
    omega (arith, a, b)

pub over_same : {X Y : Type 0} (xs : List X) (ys : List Y) (node : StoredNode) → length xs ≡ length ys → IsOver xs node → IsOver ys node
over_same xs ys (Leaf planes) e over = tt
over_same xs ys (Join op left right) e over =
    ((over.0.0, omega (arith, over.0.1)), (over.1.0, omega (arith, over.1.1)))

-- the height of a node, by the heights of the trees
pub height_known : (hs : List ℕ) (ts : List Tree) (node : StoredNode) → hs ≡ map height ts →
    height_over hs node ≡ height (tree_of_node ts node)
height_known hs ts node e = ap (λ (xs : List ℕ). height_over xs node) e ∙ height_of_node ts node

-- the heights with the next one
pub heights_more : (hs : List ℕ) (ts us : List Tree) (t : Tree) (r : ℕ) → hs ≡ map height ts → r ≡ height t →
    us ≡ ts ++ t ∷ [] → hs ++ r ∷ [] ≡ map height us
heights_more hs ts us t r e er eu =
    ap₂ (λ (xs : List ℕ) (x : ℕ). xs ++ x ∷ []) e er ∙ sym (map-append height ts (t ∷ [])) ∙ ap (map height) (sym eu)

-- a level with the next tree
pub level_more : (now old : List ℕ) (r m h : ℕ) (ts us : List Tree) (t : Tree) →
    now ≡ cond (eqb r h) (old ++ m ∷ []) old → old ≡ numbers_of_height h ts → r ≡ height t → m ≡ 1 + length ts →
    us ≡ ts ++ t ∷ [] → now ≡ numbers_of_height h us
level_more now old r m h ts us t e eo er em eu =
    e ∙ ap (λ (x : ℕ). cond (eqb x h) (old ++ m ∷ []) old) er
    ∙ ap₂ (λ (xs : List ℕ) (x : ℕ). cond (eqb (height t) h) (xs ++ x ∷ []) xs) eo em
    ∙ sym (numbers_push 1 h ts t) ∙ ap (numbers_of_height h) (sym eu)

-- heights that are below a number, with the next one
pub low_push : (hs : List ℕ) (r n m : ℕ) → ((k : ℕ) → k < length hs → get_or hs k 0 < n) → n ≤ m → r < m →
    (k : ℕ) → k < length (hs ++ r ∷ []) → get_or (hs ++ r ∷ []) k 0 < m
low_push [] r n m low le lt zero within = lt
low_push [] r n m low le lt (suc k) within = absurd (omega arith)
low_push (h ∷ hs) r n m low le lt zero within = omega (arith, low 0 (omega arith))
low_push (h ∷ hs) r n m low le lt (suc k) within =
    low_push hs r n m (λ j j_in. low (suc j) (omega arith)) le lt k (omega arith)

-- a level that is read
pub level_read : {Z : Type 0} (levels : List (Vec ℕ Z)) (i : ℕ) (v : Vec ℕ Z) → i < length levels → v ≡ get_or levels i v →
    v.items ≡ level_at levels i
level_read {Z} levels i v within e =
    ap (λ (x : Vec ℕ Z). x.items) e ∙ sym (at.get_or-map (λ (x : Vec ℕ Z). x.items) levels i v [] within)
