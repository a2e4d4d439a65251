-- The solid of a node over those of the nodes before it, and what one node more adds.
use Rattle.std.proofs.Common.{◌≡◌, ℕ, zero, suc, ◌+◌, ◌-◌, ◌≤◌, ◌<◌, List, [], ◌∷◌, ◌++◌, map, take, length, get_or, All, pos, sym, ap, subst, ◌∙◌, arith}
use Rattle.std.proofs.Math.Seq.{take-suc, get_or-append_seam}
use Rattle.std.proofs.Math.ListN.{get_or-map}
use Rattle.std.proofs.lemmas.List.{get_or-take, map-append, length-map, length-take-le, length-append}
use Rattle.std.proofs.lemmas.List.Sums.{sum_by_push, sum_by-take-le, sum_by-le}
use Rattle.std.proofs.lemmas.List.Elements.{All-append, All-cons, All-nil, All-get_or, All-from_get_or}
use Rattle.plane_predicate.specs.Space.{Coefficients, ComesInReach}
use Rattle.csg_tree.specs.declared.node.CsgNode.{CsgNode}
use Rattle.csg_tree.specs.declared.node.CsgNode.TheVariants.{Leaf, Join}
use Rattle.csg_tree.specs.HalfSpaceTrees.{Tree, nothing, leaf, tree_join}
use Rattle.csg_tree.specs.ProperTrees.{IsProper, IsLeafPlane}
use Rattle.csg_tree.specs.Numberings.{tree_numbered, IsNumberIn}
use Rattle.csg_tree.specs.Nodes.{IsNodeOf}
use Rattle.bsp_tree.specs.Shapes.{SolidParts}
use Rattle.bsp_tree.specs.Trees.{outside, size}
use Rattle.bsp_tree.specs.Shapes.{tree_of}
use Rattle.bsp_boolean.specs.Merges.{merge_of}
use Rattle.bsp_boolean.specs.Solids.{solid_of}
use Rattle.bsp_boolean.specs.TreeSolids.{most_solid_size, most_total_size, solid_size, total_size, AreWithinSizeLimits, one_if_join, join_count, merges_of, solid_over, IsOverSolids, HasFirstSolids}
use Rattle.bsp_boolean.specs.declared.tree_solids.FirstSolids.{FirstSolids}

pub first_more : (trees : List Tree) (n : ℕ) → IsNumberIn trees n → take n trees ≡ take (n - 1) trees ++ tree_numbered trees n ∷ []
first_more trees zero h = absurd (omega arith)
first_more trees (suc k) h =
    let back : k ≡ suc k - 1 = omega arith in
    subst (λ m. take (suc k) trees ≡ take m trees ++ get_or trees m nothing ∷ []) back (take-suc trees k nothing (omega arith))

pub size_more : (trees : List Tree) (n : ℕ) → IsNumberIn trees n → total_size (take n trees) ≡ total_size (take (n - 1) trees) + solid_size (tree_numbered trees n)
size_more trees n h = ap total_size (first_more trees n h) ∙ sum_by_push solid_size (take (n - 1) trees) (tree_numbered trees n)

pub joins_more : (trees : List Tree) (n : ℕ) → IsNumberIn trees n → join_count (take n trees) ≡ join_count (take (n - 1) trees) + one_if_join (tree_numbered trees n)
joins_more trees n h = ap join_count (first_more trees n h) ∙ sum_by_push one_if_join (take (n - 1) trees) (tree_numbered trees n)

pub within_more : (trees : List Tree) (n : ℕ) → IsNumberIn trees n → AreWithinSizeLimits (take (n - 1) trees) →
    solid_size (tree_numbered trees n) ≤ most_solid_size → total_size (take n trees) ≤ most_total_size → AreWithinSizeLimits (take n trees)
within_more trees n h w one all = record {
  each = subst (All (λ tree. solid_size tree ≤ most_solid_size)) (sym (first_more trees n h))
      (All-append (λ tree. solid_size tree ≤ most_solid_size) (take (n - 1) trees) (tree_numbered trees n ∷ []) w.each
      (All-cons (λ tree. solid_size tree ≤ most_solid_size) (tree_numbered trees n) [] one (All-nil (λ tree. solid_size tree ≤ most_solid_size))));
  together = all;
}

pub one_solid_more : (trees : List Tree) (n : ℕ) → IsNumberIn trees n →
    map solid_of (take n trees) ≡ map solid_of (take (n - 1) trees) ++ solid_of (tree_numbered trees n) ∷ []
one_solid_more trees n h =
    ap (map solid_of) (first_more trees n h)
    ∙ map-append solid_of (take (n - 1) trees) (tree_numbered trees n ∷ [])

pub solids_more : (trees : List Tree) (n : ℕ) (solids : List SolidParts) (solid : SolidParts) → IsNumberIn trees n →
    map tree_of solids ≡ map solid_of (take (n - 1) trees) → tree_of solid ≡ solid_of (tree_numbered trees n) →
    map tree_of (solids ++ solid ∷ []) ≡ map solid_of (take n trees)
solids_more trees n solids solid h before now =
    map-append tree_of solids (solid ∷ [])
    ∙ ap (λ x. x ++ tree_of solid ∷ []) before
    ∙ ap (λ x. map solid_of (take (n - 1) trees) ++ x ∷ []) now
    ∙ sym (one_solid_more trees n h)

origin : Coefficients
origin = record { a = pos 0; b = pos 0; c = pos 0; d = pos 0 }

so_many : (trees : List Tree) (n : ℕ) (solids : List SolidParts) → IsNumberIn trees n →
    map tree_of solids ≡ map solid_of (take (n - 1) trees) → length solids ≡ n - 1
so_many trees n solids h before =
    sym (length-map solids tree_of) ∙ ap length before ∙ length-map (take (n - 1) trees) solid_of
    ∙ length-take-le (n - 1) trees (omega arith)

reach : (planes : List Coefficients) → All IsLeafPlane planes → All ComesInReach planes
reach planes all =
    All-from_get_or ComesInReach planes origin (λ i h. (All-get_or IsLeafPlane planes i origin h all).reach)

pub over_solids : (trees : List Tree) (n : ℕ) (solids : List SolidParts) (node : CsgNode) → IsNumberIn trees n →
    map tree_of solids ≡ map solid_of (take (n - 1) trees) → IsNodeOf trees n node → IsProper (tree_numbered trees n) →
    IsOverSolids solids node
over_solids trees n solids (Leaf planes) h before is proper =
    let leaves = (subst IsProper is proper).leaves in
    (leaves.0, reach planes.now leaves.1)
over_solids trees n solids (Join op left right) h before is proper =
    let count = so_many trees n solids h before in
    (is.0, omega arith, is.2, omega arith)

pub solid_numbered : (trees : List Tree) (n m : ℕ) → 1 ≤ m → m ≤ n →
    get_or (map solid_of (take n trees)) (m - 1) outside ≡ solid_of (tree_numbered trees m)
solid_numbered trees n m low high =
    get_or-map solid_of (take n trees) (m - 1) nothing
    ∙ ap solid_of (get_or-take n trees (m - 1) nothing (omega arith))

numbered_before : (trees : List Tree) (n m : ℕ) (solids : List SolidParts) → map tree_of solids ≡ map solid_of (take (n - 1) trees) →
    1 ≤ m → m < n → get_or (map tree_of solids) (m - 1) outside ≡ solid_of (tree_numbered trees m)
numbered_before trees n m solids before low high =
    ap (λ x. get_or x (m - 1) outside) before
    ∙ solid_numbered trees (n - 1) m low (omega arith)

pub same_solid : (trees : List Tree) (n : ℕ) (solids : List SolidParts) (node : CsgNode) →
    map tree_of solids ≡ map solid_of (take (n - 1) trees) → IsNodeOf trees n node →
    solid_over (map tree_of solids) node ≡ solid_of (tree_numbered trees n)
same_solid trees n solids (Leaf planes) before is = sym (ap solid_of is)
same_solid trees n solids (Join op left right) before is =
    ap (λ x. merge_of op x (get_or (map tree_of solids) (right - 1) outside)) (numbered_before trees n left solids before is.0 is.1)
    ∙ ap (λ x. merge_of op (solid_of (tree_numbered trees left)) x) (numbered_before trees n right solids before is.2 is.3)
    ∙ sym (ap solid_of is.4)

pub same_merges : (trees : List Tree) (n : ℕ) (node : CsgNode) → IsNodeOf trees n node → merges_of node ≡ one_if_join (tree_numbered trees n)
same_merges trees n (Leaf planes) is = sym (ap one_if_join is)
same_merges trees n (Join op left right) is = sym (ap one_if_join is.4)

pub made_solid : (trees : List Tree) (n : ℕ) (solids lent : List SolidParts) (node : CsgNode) (solid : SolidParts) →
    map tree_of solids ≡ map solid_of (take (n - 1) trees) → lent ≡ solids → IsNodeOf trees n node →
    tree_of solid ≡ solid_over (map tree_of lent) node → tree_of solid ≡ solid_of (tree_numbered trees n)
made_solid trees n solids lent node solid before same is made =
    made ∙ ap (λ x. solid_over (map tree_of x) node) same ∙ same_solid trees n solids node before is

pub too_much : (trees : List Tree) (n sum : ℕ) (solid : SolidParts) → IsNumberIn trees n → sum ≡ total_size (take (n - 1) trees) →
    AreWithinSizeLimits (take (n - 1) trees) → tree_of solid ≡ solid_of (tree_numbered trees n) → most_total_size - sum < size (tree_of solid) →
    most_total_size < total_size (take n trees)
too_much trees n sum solid h is within same past =
    let more = size_more trees n h in
    let own = ap size same in
    let before = within.together in
    omega arith

pub grown_by : (trees : List Tree) (n : ℕ) (growth new : FirstSolids) (solid : SolidParts) → IsNumberIn trees n →
    HasFirstSolids trees (n - 1) growth → new.solids.items ≡ growth.solids.items ++ solid ∷ [] → new.sum ≡ growth.sum + size (tree_of solid) →
    tree_of solid ≡ solid_of (tree_numbered trees n) → size (tree_of solid) ≤ most_solid_size → size (tree_of solid) ≤ most_total_size - growth.sum →
    HasFirstSolids trees n new
grown_by trees n growth new solid h grown items added same small fits =
    let more = size_more trees n h in
    let own = ap size same in
    let before = grown.within.together in
    let sum_before = grown.sum in
    let one : solid_size (tree_numbered trees n) ≤ most_solid_size = omega arith in
    let all : total_size (take n trees) ≤ most_total_size = omega arith in
    record {
      solids = ap (map tree_of) items ∙ solids_more trees n growth.solids.items solid h grown.solids same;
      sum = omega arith;
      within = within_more trees n h grown.within one all;
    }

pub none_grown : (trees : List Tree) (growth : FirstSolids) → growth.solids.items ≡ [] → growth.sum ≡ 0 → HasFirstSolids trees 0 growth
none_grown trees growth none none_yet = record {
  solids = ap (map tree_of) none;
  sum = none_yet;
  within = record { each = All-nil (λ tree. solid_size tree ≤ most_solid_size); together = omega arith };
}

one_at_most : (tree : Tree) → one_if_join tree ≤ 1
one_at_most nothing = omega arith
one_at_most (leaf planes) = omega arith
one_at_most (tree_join op left right) = omega arith

pub few_joins : (trees : List Tree) (n : ℕ) → join_count (take n trees) ≤ length trees
few_joins trees n =
    let all = sum_by-take-le one_if_join trees n in
    let each = sum_by-le one_if_join 1 trees (λ k d lt. one_at_most (get_or trees k d)) in
    omega arith

pub last_solid : (trees : List Tree) (n : ℕ) (rest : List SolidParts) (solid : SolidParts) →
    map tree_of (rest ++ solid ∷ []) ≡ map solid_of (take n trees) → n ≤ length trees →
    tree_of solid ≡ solid_of (tree_numbered trees n)
last_solid trees n rest solid before there =
    let many : length (rest ++ solid ∷ []) ≡ n =
    sym (length-map (rest ++ solid ∷ []) tree_of) ∙ ap length before ∙ length-map (take n trees) solid_of ∙ length-take-le n trees there in
    let more = length-append rest (solid ∷ []) in
    let place : length rest ≡ n - 1 = omega arith in
    sym (get_or-append_seam (map tree_of rest) (tree_of solid) [] outside)
    ∙ ap (λ k. get_or (map tree_of rest ++ tree_of solid ∷ []) k outside) (length-map rest tree_of)
    ∙ ap (λ x. get_or x (length rest) outside) (sym (map-append tree_of rest (solid ∷ [])) ∙ before)
    ∙ get_or-map solid_of (take n trees) (length rest) nothing
    ∙ ap solid_of (get_or-take n trees (length rest) nothing (omega arith))
    ∙ ap (λ k. solid_of (get_or trees k nothing)) place
