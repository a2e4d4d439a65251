-- Joined designs have no empty sides, and no more parts than what is joined.
use Rattle.std.proofs.Common.{◌≡◌, ℕ, zero, suc, ◌+◌, ◌*◌, ◌/◌, ◌≤◌, List, [], ◌∷◌, length, take, drop, refl, sym, ap, ap₂, ◌∙◌, arith, All}
use Rattle.std.specs.List.{sum_by}
use Rattle.std.proofs.lemmas.List.{take-append-drop}
use Rattle.std.proofs.lemmas.List.Sums.{sum_by-append, sum_by-cons}
use Rattle.std.proofs.lemmas.List.Elements.{All-cons, All-head, All-nil, All-tail}
use Rattle.int_transform.specs.declared.affine.Affine.{Affine}
use Rattle.csg_tree.specs.declared.op.Op.{Op}
use Rattle.csg_tree.specs.declared.op.Op.TheVariants.{Union, Intersection, Difference}
use Rattle.scad_design.specs.Designs.{DesignTree, empty, a_leaf, joined_designs, join, balanced_join_within, balanced_join, join_children, moved_design_tree}
use Rattle.scad_design.specs.Trees.{leaf_count, tree_size, IsNotEmpty, IsTrim}

trim_join : (op : Op) (left right : DesignTree) → IsTrim left → IsTrim right → IsTrim (join op left right)
trim_join Union empty right hl hr = hr
trim_join Intersection empty right hl hr = tt
trim_join Difference empty right hl hr = tt
trim_join Union (a_leaf p) empty hl hr = hl
trim_join Intersection (a_leaf p) empty hl hr = tt
trim_join Difference (a_leaf p) empty hl hr = hl
trim_join Union (a_leaf p) (a_leaf q) hl hr = (tt, tt, hl, hr)
trim_join Intersection (a_leaf p) (a_leaf q) hl hr = (tt, tt, hl, hr)
trim_join Difference (a_leaf p) (a_leaf q) hl hr = (tt, tt, hl, hr)
trim_join Union (a_leaf p) (joined_designs k c d) hl hr = (tt, tt, hl, hr)
trim_join Intersection (a_leaf p) (joined_designs k c d) hl hr = (tt, tt, hl, hr)
trim_join Difference (a_leaf p) (joined_designs k c d) hl hr = (tt, tt, hl, hr)
trim_join Union (joined_designs o a b) empty hl hr = hl
trim_join Intersection (joined_designs o a b) empty hl hr = tt
trim_join Difference (joined_designs o a b) empty hl hr = hl
trim_join Union (joined_designs o a b) (a_leaf q) hl hr = (tt, tt, hl, hr)
trim_join Intersection (joined_designs o a b) (a_leaf q) hl hr = (tt, tt, hl, hr)
trim_join Difference (joined_designs o a b) (a_leaf q) hl hr = (tt, tt, hl, hr)
trim_join Union (joined_designs o a b) (joined_designs k c d) hl hr = (tt, tt, hl, hr)
trim_join Intersection (joined_designs o a b) (joined_designs k c d) hl hr = (tt, tt, hl, hr)
trim_join Difference (joined_designs o a b) (joined_designs k c d) hl hr = (tt, tt, hl, hr)

parts_join : (op : Op) (left right : DesignTree) → leaf_count (join op left right) ≤ leaf_count left + leaf_count right
parts_join Union empty right = omega arith
parts_join Intersection empty right = omega arith
parts_join Difference empty right = omega arith
parts_join Union (a_leaf p) empty = omega arith
parts_join Intersection (a_leaf p) empty = omega arith
parts_join Difference (a_leaf p) empty = omega arith
parts_join Union (a_leaf p) (a_leaf q) = omega arith
parts_join Intersection (a_leaf p) (a_leaf q) = omega arith
parts_join Difference (a_leaf p) (a_leaf q) = omega arith
parts_join Union (a_leaf p) (joined_designs k c d) = omega arith
parts_join Intersection (a_leaf p) (joined_designs k c d) = omega arith
parts_join Difference (a_leaf p) (joined_designs k c d) = omega arith
parts_join Union (joined_designs o a b) empty = omega arith
parts_join Intersection (joined_designs o a b) empty = omega arith
parts_join Difference (joined_designs o a b) empty = omega arith
parts_join Union (joined_designs o a b) (a_leaf q) = omega arith
parts_join Intersection (joined_designs o a b) (a_leaf q) = omega arith
parts_join Difference (joined_designs o a b) (a_leaf q) = omega arith
parts_join Union (joined_designs o a b) (joined_designs k c d) = omega arith
parts_join Intersection (joined_designs o a b) (joined_designs k c d) = omega arith
parts_join Difference (joined_designs o a b) (joined_designs k c d) = omega arith

all_take : (n : ℕ) (designs : List DesignTree) → All IsTrim designs → All IsTrim (take n designs)
all_take zero designs h = All-nil IsTrim
all_take (suc n) [] h = h
all_take (suc n) (d ∷ designs) h = All-cons IsTrim d (take n designs) (All-head IsTrim d designs h) (all_take n designs (All-tail IsTrim d designs h))

all_drop : (n : ℕ) (designs : List DesignTree) → All IsTrim designs → All IsTrim (drop n designs)
all_drop zero designs h = h
all_drop (suc n) [] h = h
all_drop (suc n) (d ∷ designs) h = all_drop n designs (All-tail IsTrim d designs h)

parts_split : (n : ℕ) (designs : List DesignTree) → sum_by leaf_count (take n designs) + sum_by leaf_count (drop n designs) ≡ sum_by leaf_count designs
parts_split n designs = sym (sum_by-append leaf_count (take n designs) (drop n designs)) ∙ ap (sum_by leaf_count) (take-append-drop n designs)

trim_within : (n : ℕ) (op : Op) (designs : List DesignTree) → All IsTrim designs → IsTrim (balanced_join_within n op designs)
trim_within zero op designs h = tt
trim_within (suc n) op [] h = tt
trim_within (suc n) op (d ∷ []) h = All-head IsTrim d [] h
trim_within (suc n) op (d ∷ e ∷ designs) h =
    let all = d ∷ e ∷ designs in
    let half = length all / 2 in
    trim_join op (balanced_join_within n op (take half all)) (balanced_join_within n op (drop half all))
    (trim_within n op (take half all) (all_take half all h)) (trim_within n op (drop half all) (all_drop half all h))

parts_within : (n : ℕ) (op : Op) (designs : List DesignTree) → leaf_count (balanced_join_within n op designs) ≤ sum_by leaf_count designs
parts_within zero op designs = omega arith
parts_within (suc n) op [] = omega arith
parts_within (suc n) op (d ∷ []) = omega (arith, sum_by-cons leaf_count d [])
parts_within (suc n) op (d ∷ e ∷ designs) =
    let all = d ∷ e ∷ designs in
    let half = length all / 2 in
    let first = parts_within n op (take half all) in
    let rest = parts_within n op (drop half all) in
    omega (arith, parts_join op (balanced_join_within n op (take half all)) (balanced_join_within n op (drop half all)), first, rest, parts_split half all)

pub trim_grouped : (op : Op) (designs : List DesignTree) → All IsTrim designs → IsTrim (join_children op designs)
trim_grouped Union designs h = trim_within (length designs) Union designs h
trim_grouped Intersection designs h = trim_within (length designs) Intersection designs h
trim_grouped Difference [] h = tt
trim_grouped Difference (d ∷ designs) h =
    trim_join Difference d (balanced_join Union designs) (All-head IsTrim d designs h) (trim_within (length designs) Union designs (All-tail IsTrim d designs h))

pub parts_grouped : (op : Op) (designs : List DesignTree) → leaf_count (join_children op designs) ≤ sum_by leaf_count designs
parts_grouped Union designs = parts_within (length designs) Union designs
parts_grouped Intersection designs = parts_within (length designs) Intersection designs
parts_grouped Difference [] = omega arith
parts_grouped Difference (d ∷ designs) =
    let both : leaf_count (join Difference d (balanced_join Union designs)) ≤ sum_by leaf_count (d ∷ designs) =
    omega (arith, parts_join Difference d (balanced_join Union designs), parts_within (length designs) Union designs, sum_by-cons leaf_count d designs) in
    both

present_moved : (steps : List Affine) (design : DesignTree) → IsNotEmpty design → IsNotEmpty (moved_design_tree steps design)
present_moved steps empty h = h
present_moved steps (a_leaf part) h = tt
present_moved steps (joined_designs op left right) h = tt

pub trim_moved : (steps : List Affine) (design : DesignTree) → IsTrim design → IsTrim (moved_design_tree steps design)
trim_moved steps empty h = tt
trim_moved steps (a_leaf part) h = tt
trim_moved steps (joined_designs op left right) h = (present_moved steps left h.0, present_moved steps right h.1, trim_moved steps left h.2, trim_moved steps right h.3)

pub parts_moved : (steps : List Affine) (design : DesignTree) → leaf_count (moved_design_tree steps design) ≡ leaf_count design
parts_moved steps empty = refl
parts_moved steps (a_leaf part) = refl
parts_moved steps (joined_designs op left right) = ap₂ ◌+◌ (parts_moved steps left) (parts_moved steps right)

pieces_present : (design : DesignTree) → IsTrim design → IsNotEmpty design → 1 + tree_size design ≤ 2 * leaf_count design
pieces_present empty h is = absurd is
pieces_present (a_leaf part) h is = omega arith
pieces_present (joined_designs op left right) h is = omega (arith, pieces_present left h.2 h.0, pieces_present right h.3 h.1)

pub few_pieces : (design : DesignTree) → IsTrim design → tree_size design ≤ 1 + 2 * leaf_count design
few_pieces empty h = omega arith
few_pieces (a_leaf part) h = omega arith
few_pieces (joined_designs op left right) h = omega (arith, pieces_present (joined_designs op left right) h tt)
