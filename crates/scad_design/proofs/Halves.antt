-- Designs joined by halves.
use Rattle.std.proofs.Common.{◌≡◌, ℕ, zero, suc, ◌+◌, ◌-◌, ◌/◌, ◌≤◌, List, [], ◌∷◌, length, take, drop, map, refl, ap, ap₂, subst, ◌∙◌, arith}
use Rattle.std.proofs.lemmas.List.{length-map, length-take, length-drop, take-map, drop-map, length-take-le, take-take, drop-take, drop-drop}
use Rattle.csg_tree.specs.declared.op.Op.{Op}
use Rattle.scad_design.specs.Designs.{DesignTree, join, balanced_join_within, balanced_join}

-- the first half of more than one is not all of them, and neither is the rest
first_shorter : (designs : List DesignTree) → 2 ≤ length designs → (n : ℕ) → length designs ≤ suc n →
    length (take (length designs / 2) designs) ≤ n
first_shorter designs two n within = rw length-take (omega arith)

rest_shorter : (designs : List DesignTree) → 2 ≤ length designs → (n : ℕ) → length designs ≤ suc n →
    length (drop (length designs / 2) designs) ≤ n
rest_shorter designs two n within = rw length-drop (omega arith)

two_long : (design next : DesignTree) (designs : List DesignTree) → 2 ≤ length (design ∷ next ∷ designs)
two_long design next designs = omega arith

-- halving more often than there are designs changes nothing
pub often_enough : (n m : ℕ) (op : Op) (designs : List DesignTree) → length designs ≤ n → length designs ≤ m →
    balanced_join_within n op designs ≡ balanced_join_within m op designs
often_enough zero zero op designs hn hm = refl
often_enough zero (suc m) op [] hn hm = refl
often_enough zero (suc m) op (design ∷ designs) hn hm = absurd (omega arith)
often_enough (suc n) zero op [] hn hm = refl
often_enough (suc n) zero op (design ∷ designs) hn hm = absurd (omega arith)
often_enough (suc n) (suc m) op [] hn hm = refl
often_enough (suc n) (suc m) op (design ∷ []) hn hm = refl
often_enough (suc n) (suc m) op (design ∷ next ∷ designs) hn hm =
    let all = design ∷ next ∷ designs in
    let two = two_long design next designs in
    ap₂ (join op)
    (often_enough n m op (take (length all / 2) all) (first_shorter all two n hn)
    (first_shorter all two m hm))
    (often_enough n m op (drop (length all / 2) all) (rest_shorter all two n hn) (rest_shorter all two m hm))

-- more than one: the join of the first half and the rest
pub by_halves : (op : Op) (designs : List DesignTree) → 2 ≤ length designs →
    balanced_join op designs
    ≡ join op (balanced_join op (take (length designs / 2) designs))
    (balanced_join op (drop (length designs / 2) designs))
by_halves op [] two = absurd (omega arith)
by_halves op (design ∷ []) two = absurd (omega arith)
by_halves op (design ∷ next ∷ designs) two =
    let all = design ∷ next ∷ designs in
    let n = suc (length designs) in
    let within : length all ≤ suc n = omega arith in
    let first = first_shorter all two n within in
    let rest = rest_shorter all two n within in
    let self : (xs : List DesignTree) → length xs ≤ length xs = λ xs. omega arith in
    ap₂ (join op)
    (often_enough n (length (take (length all / 2) all)) op (take (length all / 2) all) first
    (self (take (length all / 2) all)))
    (often_enough n (length (drop (length all / 2) all)) op (drop (length all / 2) all) rest
    (self (drop (length all / 2) all)))

-- what the first half and the next designs give make up what all give
pub next_halves : {T : Type 0} (f : T → DesignTree) (op : Op) (n : ℕ) (designs : List T) → 2 ≤ n →
    n ≤ length designs →
    balanced_join op (map f (take n designs))
    ≡ join op (balanced_join op (map f (take (n / 2) designs)))
    (balanced_join op (map f (take (n - n / 2) (drop (n / 2) designs))))
next_halves f op n designs two within =
    let all = map f (take n designs) in
    let half = n / 2 in
    let count : length all ≡ n = length-map (take n designs) f ∙ length-take-le n designs within in
    let first : take half all ≡ map f (take half designs) = take-map f half (take n designs)
    ∙ ap (map f) (take-take half n designs (omega arith)) in
    let whole : n ≡ half + (n - half) = omega arith in
    let rest : drop half all ≡ map f (take (n - half) (drop half designs)) =
    drop-map f half (take n designs)
    ∙ ap (map f) (ap (λ k. drop half (take k designs)) whole ∙ drop-take half (n - half) designs) in
    let many : 2 ≤ length all = omega arith in
    subst (λ k. balanced_join op all
    ≡ join op (balanced_join op (take (k / 2) all)) (balanced_join op (drop (k / 2) all))) count
    (by_halves op all many)
    ∙ ap₂ (λ xs ys. join op (balanced_join op xs) (balanced_join op ys)) first rest

-- the rest after the first half and the next designs is the rest after all of them
pub drop_halves : {T : Type 0} (n : ℕ) (designs : List T) → drop (n - n / 2) (drop (n / 2) designs) ≡ drop n designs
drop_halves n designs =
    let whole : n / 2 + (n - n / 2) ≡ n = omega arith in
    drop-drop (n - n / 2) (n / 2) designs ∙ ap (λ k. drop k designs) whole
