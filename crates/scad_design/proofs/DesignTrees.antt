-- The trees of designs that are joined.
use Rattle.std.proofs.Common.{◌≡◌, ℕ, zero, suc, ◌/◌, List, [], ◌∷◌, length, take, drop, map, refl, sym, ap, ap₂, subst, ◌∙◌}
use Rattle.std.specs.List.{AllZip}
use Rattle.std.proofs.lemmas.List.{length-map, take-map, drop-map}
use Rattle.plane_predicate.specs.Space.{Coefficients}
use Rattle.int_transform.specs.declared.affine.Affine.{Affine}
use Rattle.csg_tree.specs.declared.op.Op.{Op}
use Rattle.csg_tree.specs.declared.op.Op.TheVariants.{Union, Intersection, Difference}
use Rattle.csg_tree.specs.HalfSpaceTrees.{Tree, nothing, leaf, tree_join}
use Rattle.csg_tree.specs.Joins.{balanced_of, join_of, joined_within}
use Rattle.scad_design.specs.Designs.{DesignTree, empty, a_leaf, joined_designs, join, balanced_join_within, balanced_join, moved_design_tree}
use Rattle.scad_design.specs.Placing.{PlacingOutcome, placing_tree, placing_fault, placing_of_join, PlacesDesign, PlacesRight}
use Rattle.scad_design.specs.Trees.{IsTreeOf}

-- ---- a placed design has its tree
abbrev tree_in : PlacingOutcome → Tree
tree_in (placing_tree tree known) = tree
tree_in (placing_fault kind at) = nothing

abbrev HasTree : DesignTree → Type 0
HasTree design = (known now : List Coefficients) (tree : Tree) → PlacesDesign design known (placing_tree tree now) → IsTreeOf design tree

right_tree : (op : Op) (left right : DesignTree) (first : Tree) (before now : List Coefficients) (tree : Tree) (next : PlacingOutcome) → IsTreeOf left first → HasTree right →
    PlacesDesign right before next → placing_tree tree now ≡ placing_of_join op first next → IsTreeOf (joined_designs op left right) tree
right_tree op left right first before now tree (placing_tree second after) is has h e = (first, second, is, has before after second h, ap tree_in e)
right_tree op left right first before now tree (placing_fault kind at) is has h e = absurd (cc)

joined_tree_of : (op : Op) (left right : DesignTree) (known now : List Coefficients) (tree : Tree) (first : PlacingOutcome) → HasTree left → HasTree right →
    PlacesDesign left known first → PlacesRight (PlacesDesign right) op first (placing_tree tree now) → IsTreeOf (joined_designs op left right) tree
joined_tree_of op left right known now tree (placing_tree t before) has_left has_right hl hr = right_tree op left right t before now tree hr.0 (has_left known before t hl) has_right hr.1 hr.2
joined_tree_of op left right known now tree (placing_fault kind at) has_left has_right hl hr = absurd (cc)

pub placed_tree : (design : DesignTree) → HasTree design
placed_tree empty known now tree h = ap tree_in h
placed_tree (a_leaf part) known now tree h = (h.0, h.1.planes_are, h.2)
placed_tree (joined_designs op left right) known now tree h = joined_tree_of op left right known now tree h.0 (placed_tree left) (placed_tree right) h.1 h.2

-- ---- joins
without_right : (tree : Tree) → (join_of Union tree nothing ≡ tree) × (join_of Intersection tree nothing ≡ nothing) × (join_of Difference tree nothing ≡ tree)
without_right nothing = (refl, refl, refl)
without_right (leaf planes) = (refl, refl, refl)
without_right (tree_join op left right) = (refl, refl, refl)

pub join_trees : (op : Op) (left right : DesignTree) (first second : Tree) → IsTreeOf left first → IsTreeOf right second → IsTreeOf (join op left right) (join_of op first second)
join_trees Union empty right first second hl hr = subst (λ (t : Tree). IsTreeOf right (join_of Union t second)) (sym hl) hr
join_trees Intersection empty right first second hl hr = ap (λ (t : Tree). join_of Intersection t second) hl
join_trees Difference empty right first second hl hr = ap (λ (t : Tree). join_of Difference t second) hl
join_trees Union (a_leaf p) empty first second hl hr = subst (IsTreeOf (a_leaf p)) (sym (ap (join_of Union first) hr ∙ (without_right first).0)) hl
join_trees Intersection (a_leaf p) empty first second hl hr = ap (join_of Intersection first) hr ∙ (without_right first).1
join_trees Difference (a_leaf p) empty first second hl hr = subst (IsTreeOf (a_leaf p)) (sym (ap (join_of Difference first) hr ∙ (without_right first).2)) hl
join_trees Union (a_leaf p) (a_leaf q) first second hl hr = (first, second, hl, hr, refl)
join_trees Intersection (a_leaf p) (a_leaf q) first second hl hr = (first, second, hl, hr, refl)
join_trees Difference (a_leaf p) (a_leaf q) first second hl hr = (first, second, hl, hr, refl)
join_trees Union (a_leaf p) (joined_designs k c d) first second hl hr = (first, second, hl, hr, refl)
join_trees Intersection (a_leaf p) (joined_designs k c d) first second hl hr = (first, second, hl, hr, refl)
join_trees Difference (a_leaf p) (joined_designs k c d) first second hl hr = (first, second, hl, hr, refl)
join_trees Union (joined_designs o a b) empty first second hl hr = subst (IsTreeOf (joined_designs o a b)) (sym (ap (join_of Union first) hr ∙ (without_right first).0)) hl
join_trees Intersection (joined_designs o a b) empty first second hl hr = ap (join_of Intersection first) hr ∙ (without_right first).1
join_trees Difference (joined_designs o a b) empty first second hl hr = subst (IsTreeOf (joined_designs o a b)) (sym (ap (join_of Difference first) hr ∙ (without_right first).2)) hl
join_trees Union (joined_designs o a b) (a_leaf q) first second hl hr = (first, second, hl, hr, refl)
join_trees Intersection (joined_designs o a b) (a_leaf q) first second hl hr = (first, second, hl, hr, refl)
join_trees Difference (joined_designs o a b) (a_leaf q) first second hl hr = (first, second, hl, hr, refl)
join_trees Union (joined_designs o a b) (joined_designs k c d) first second hl hr = (first, second, hl, hr, refl)
join_trees Intersection (joined_designs o a b) (joined_designs k c d) first second hl hr = (first, second, hl, hr, refl)
join_trees Difference (joined_designs o a b) (joined_designs k c d) first second hl hr = (first, second, hl, hr, refl)

-- ---- by halves
zip_length : (designs : List DesignTree) (trees : List Tree) → AllZip IsTreeOf designs trees → length designs ≡ length trees
zip_length [] [] h = refl
zip_length [] (t ∷ trees) h = absurd h
zip_length (d ∷ designs) [] h = absurd h
zip_length (d ∷ designs) (t ∷ trees) h = ap suc (zip_length designs trees h.1)

zip_take : (n : ℕ) (designs : List DesignTree) (trees : List Tree) → AllZip IsTreeOf designs trees → AllZip IsTreeOf (take n designs) (take n trees)
zip_take zero designs trees h = tt
zip_take (suc n) [] [] h = h
zip_take (suc n) [] (t ∷ trees) h = absurd h
zip_take (suc n) (d ∷ designs) [] h = absurd h
zip_take (suc n) (d ∷ designs) (t ∷ trees) h = (h.0, zip_take n designs trees h.1)

zip_drop : (n : ℕ) (designs : List DesignTree) (trees : List Tree) → AllZip IsTreeOf designs trees → AllZip IsTreeOf (drop n designs) (drop n trees)
zip_drop zero designs trees h = h
zip_drop (suc n) [] [] h = h
zip_drop (suc n) [] (t ∷ trees) h = absurd h
zip_drop (suc n) (d ∷ designs) [] h = absurd h
zip_drop (suc n) (d ∷ designs) (t ∷ trees) h = zip_drop n designs trees h.1

within_trees : (n : ℕ) (op : Op) (designs : List DesignTree) (trees : List Tree) → AllZip IsTreeOf designs trees → IsTreeOf (balanced_join_within n op designs) (joined_within n op trees)
within_trees zero op designs trees h = refl
within_trees (suc n) op [] [] h = refl
within_trees (suc n) op [] (t ∷ trees) h = absurd h
within_trees (suc n) op (d ∷ designs) [] h = absurd h
within_trees (suc n) op (d ∷ []) (t ∷ []) h = h.0
within_trees (suc n) op (d ∷ []) (t ∷ u ∷ trees) h = absurd h.1
within_trees (suc n) op (d ∷ e ∷ designs) (t ∷ []) h = absurd h.1
within_trees (suc n) op (d ∷ e ∷ designs) (t ∷ u ∷ trees) h =
    let all = d ∷ e ∷ designs in let whole = t ∷ u ∷ trees in
    let half = length all / 2 in
    let both = join_trees op (balanced_join_within n op (take half all)) (balanced_join_within n op (drop half all)) (joined_within n op (take half whole)) (joined_within n op (drop half whole))
    (within_trees n op (take half all) (take half whole) (zip_take half all whole h)) (within_trees n op (drop half all) (drop half whole) (zip_drop half all whole h)) in
    subst (λ (k : ℕ). IsTreeOf (join op (balanced_join_within n op (take half all)) (balanced_join_within n op (drop half all))) (join_of op (joined_within n op (take (k / 2) whole)) (joined_within n op (drop (k / 2) whole))))
    (zip_length all whole h) both

pub halves_trees : (op : Op) (designs : List DesignTree) (trees : List Tree) → AllZip IsTreeOf designs trees → IsTreeOf (balanced_join op designs) (balanced_of op trees)
halves_trees op designs trees h =
    subst (λ (k : ℕ). IsTreeOf (balanced_join op designs) (joined_within k op trees)) (zip_length designs trees h) (within_trees (length designs) op designs trees h)

-- ---- moving
moved_join : (steps : List Affine) (op : Op) (left right : DesignTree) → moved_design_tree steps (join op left right) ≡ join op (moved_design_tree steps left) (moved_design_tree steps right)
moved_join steps Union empty right = refl
moved_join steps Intersection empty right = refl
moved_join steps Difference empty right = refl
moved_join steps Union (a_leaf p) empty = refl
moved_join steps Intersection (a_leaf p) empty = refl
moved_join steps Difference (a_leaf p) empty = refl
moved_join steps Union (a_leaf p) (a_leaf q) = refl
moved_join steps Intersection (a_leaf p) (a_leaf q) = refl
moved_join steps Difference (a_leaf p) (a_leaf q) = refl
moved_join steps Union (a_leaf p) (joined_designs k c d) = refl
moved_join steps Intersection (a_leaf p) (joined_designs k c d) = refl
moved_join steps Difference (a_leaf p) (joined_designs k c d) = refl
moved_join steps Union (joined_designs o a b) empty = refl
moved_join steps Intersection (joined_designs o a b) empty = refl
moved_join steps Difference (joined_designs o a b) empty = refl
moved_join steps Union (joined_designs o a b) (a_leaf q) = refl
moved_join steps Intersection (joined_designs o a b) (a_leaf q) = refl
moved_join steps Difference (joined_designs o a b) (a_leaf q) = refl
moved_join steps Union (joined_designs o a b) (joined_designs k c d) = refl
moved_join steps Intersection (joined_designs o a b) (joined_designs k c d) = refl
moved_join steps Difference (joined_designs o a b) (joined_designs k c d) = refl

moved_within : (steps : List Affine) (n : ℕ) (op : Op) (designs : List DesignTree) → moved_design_tree steps (balanced_join_within n op designs) ≡ balanced_join_within n op (map (moved_design_tree steps) designs)
moved_within steps zero op designs = refl
moved_within steps (suc n) op [] = refl
moved_within steps (suc n) op (d ∷ []) = refl
moved_within steps (suc n) op (d ∷ e ∷ designs) =
    let move = moved_design_tree steps in
    let all = d ∷ e ∷ designs in
    let half = length all / 2 in
    let first = moved_within steps n op (take half all) ∙ ap (balanced_join_within n op) (sym (take-map move half all)) in
    let rest = moved_within steps n op (drop half all) ∙ ap (balanced_join_within n op) (sym (drop-map move half all)) in
    let both = moved_join steps op (balanced_join_within n op (take half all)) (balanced_join_within n op (drop half all)) ∙ ap₂ (join op) first rest in
    subst (λ (k : ℕ). moved_design_tree steps (balanced_join_within (suc n) op all) ≡ join op (balanced_join_within n op (take (k / 2) (map move all))) (balanced_join_within n op (drop (k / 2) (map move all))))
    (sym (length-map all move)) both

pub moved_balanced : (steps : List Affine) (op : Op) (designs : List DesignTree) → moved_design_tree steps (balanced_join op designs) ≡ balanced_join op (map (moved_design_tree steps) designs)
moved_balanced steps op designs =
    moved_within steps (length designs) op designs ∙ ap (λ (k : ℕ). balanced_join_within k op (map (moved_design_tree steps) designs)) (sym (length-map designs (moved_design_tree steps)))
