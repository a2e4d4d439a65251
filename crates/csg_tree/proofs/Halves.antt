-- Trees joined by halves.
use Rattle.std.proofs.Common.{◌≡◌, ℕ, zero, suc, ◌+◌, ◌-◌, ◌/◌, ◌≤◌, ◌||◌, List, [], ◌∷◌, length, take, drop, map, refl, sym, ap, ap₂, subst, ◌∙◌, arith}
use Rattle.std.specs.List.{list_any}
use Rattle.std.proofs.lemmas.List.{length-map, length-take, length-drop, take-append-drop, take-map, drop-map, length-take-le, take-take, drop-take, drop-drop}
use Rattle.std.proofs.lemmas.List.Folds.{list_any-append}
use Rattle.csg_tree.specs.declared.op.Op.{Op}
use Rattle.csg_tree.specs.declared.op.Op.TheVariants.{Union}
use Rattle.csg_tree.specs.HalfSpaceTrees.{Tree, nothing, leaf, tree_join, SideAssignment, holds}
use Rattle.csg_tree.specs.Joins.{join_of, joined_within, balanced_of}

-- the first half of more than one is not all of them, and neither is the rest
first_shorter : (trees : List Tree) → 2 ≤ length trees → (n : ℕ) → length trees ≤ suc n →
    length (take (length trees / 2) trees) ≤ n
first_shorter trees two n within = rw length-take (omega arith)

rest_shorter : (trees : List Tree) → 2 ≤ length trees → (n : ℕ) → length trees ≤ suc n →
    length (drop (length trees / 2) trees) ≤ n
rest_shorter trees two n within = rw length-drop (omega arith)

two_long : (tree next : Tree) (trees : List Tree) → 2 ≤ length (tree ∷ next ∷ trees)
two_long tree next trees = omega arith

-- halving more often than there are trees changes nothing
pub often_enough : (n m : ℕ) (op : Op) (trees : List Tree) → length trees ≤ n → length trees ≤ m →
    joined_within n op trees ≡ joined_within m op trees
often_enough zero zero op trees hn hm = refl
often_enough zero (suc m) op [] hn hm = refl
often_enough zero (suc m) op (tree ∷ trees) hn hm = absurd (omega arith)
often_enough (suc n) zero op [] hn hm = refl
often_enough (suc n) zero op (tree ∷ trees) hn hm = absurd (omega arith)
often_enough (suc n) (suc m) op [] hn hm = refl
often_enough (suc n) (suc m) op (tree ∷ []) hn hm = refl
often_enough (suc n) (suc m) op (tree ∷ next ∷ trees) hn hm =
    let all = tree ∷ next ∷ trees in
    let two = two_long tree next trees in
    ap₂ (join_of op)
    (often_enough n m op (take (length all / 2) all) (first_shorter all two n hn)
    (first_shorter all two m hm))
    (often_enough n m op (drop (length all / 2) all) (rest_shorter all two n hn) (rest_shorter all two m hm))

-- more than one: the join of the first half and the rest
pub by_halves : (op : Op) (trees : List Tree) → 2 ≤ length trees →
    balanced_of op trees
    ≡ join_of op (balanced_of op (take (length trees / 2) trees))
    (balanced_of op (drop (length trees / 2) trees))
by_halves op [] two = absurd (omega arith)
by_halves op (tree ∷ []) two = absurd (omega arith)
by_halves op (tree ∷ next ∷ trees) two =
    let all = tree ∷ next ∷ trees in
    let n = suc (length trees) in
    let within : length all ≤ suc n = omega arith in
    let first = first_shorter all two n within in
    let rest = rest_shorter all two n within in
    let self : (xs : List Tree) → length xs ≤ length xs = λ xs. omega arith in
    ap₂ (join_of op)
    (often_enough n (length (take (length all / 2) all)) op (take (length all / 2) all) first
    (self (take (length all / 2) all)))
    (often_enough n (length (drop (length all / 2) all)) op (drop (length all / 2) all) rest
    (self (drop (length all / 2) all)))

-- a union of two trees holds where one of them does
union_holds : (left right : Tree) (sides : SideAssignment) → holds (join_of Union left right) sides
    ≡ (holds left sides || holds right sides)
union_holds nothing right sides = refl
union_holds (leaf planes) nothing sides = grind arith
union_holds (leaf planes) (leaf more) sides = refl
union_holds (leaf planes) (tree_join op l r) sides = refl
union_holds (tree_join op l r) nothing sides = grind arith
union_holds (tree_join op l r) (leaf more) sides = refl
union_holds (tree_join op l r) (tree_join op' l' r') sides = refl

any_within : (n : ℕ) (trees : List Tree) (sides : SideAssignment) → length trees ≤ n →
    holds (joined_within n Union trees) sides ≡ list_any (λ tree. holds tree sides) trees
any_within zero [] sides h = refl
any_within zero (tree ∷ trees) sides h = absurd (omega arith)
any_within (suc n) [] sides h = refl
any_within (suc n) (tree ∷ []) sides h = grind arith
any_within (suc n) (tree ∷ next ∷ trees) sides h =
    let all = tree ∷ next ∷ trees in
    let half = length all / 2 in
    let two = two_long tree next trees in
    let test = λ (t : Tree). holds t sides in
    union_holds (joined_within n Union (take half all)) (joined_within n Union (drop half all)) sides
    ∙ ap₂ ◌||◌ (any_within n (take half all) sides (first_shorter all two n h))
    (any_within n (drop half all) sides (rest_shorter all two n h))
    ∙ sym (list_any-append test (take half all) (drop half all))
    ∙ ap (list_any test) (take-append-drop half all)

-- a union of trees by halves holds where one of them does
pub any_holds : (trees : List Tree) (sides : SideAssignment) → holds (balanced_of Union trees) sides
    ≡ list_any (λ tree. holds tree sides) trees
any_holds trees sides = any_within (length trees) trees sides (omega arith)

-- what the first half and the next trees give make up what all give
pub next_halves : {T : Type 0} (f : T → Tree) (op : Op) (n : ℕ) (trees : List T) → 2 ≤ n →
    n ≤ length trees →
    balanced_of op (map f (take n trees))
    ≡ join_of op (balanced_of op (map f (take (n / 2) trees)))
    (balanced_of op (map f (take (n - n / 2) (drop (n / 2) trees))))
next_halves f op n trees two within =
    let all = map f (take n trees) in
    let half = n / 2 in
    let count : length all ≡ n = length-map (take n trees) f ∙ length-take-le n trees within in
    let first : take half all ≡ map f (take half trees) = take-map f half (take n trees)
    ∙ ap (map f) (take-take half n trees (omega arith)) in
    let whole : n ≡ half + (n - half) = omega arith in
    let rest : drop half all ≡ map f (take (n - half) (drop half trees)) =
    drop-map f half (take n trees)
    ∙ ap (map f) (ap (λ k. drop half (take k trees)) whole ∙ drop-take half (n - half) trees) in
    let many : 2 ≤ length all = omega arith in
    subst (λ k. balanced_of op all
    ≡ join_of op (balanced_of op (take (k / 2) all)) (balanced_of op (drop (k / 2) all))) count
    (by_halves op all many)
    ∙ ap₂ (λ xs ys. join_of op (balanced_of op xs) (balanced_of op ys)) first rest

-- the rest after the first half and the next trees is the rest after all of them
pub drop_halves : {T : Type 0} (n : ℕ) (trees : List T) → drop (n - n / 2) (drop (n / 2) trees) ≡ drop n trees
drop_halves n trees =
    let whole : n / 2 + (n - n / 2) ≡ n = omega arith in
    drop-drop (n - n / 2) (n / 2) trees ∙ ap (λ k. drop k trees) whole
