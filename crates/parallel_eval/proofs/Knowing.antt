-- What is known of the trees of a store, one more at a time.
use Rattle.std.proofs.Common.{◌≡◌, ◌⊎◌, ℕ, min, ◌+◌, ◌-◌, ◌^◌, ◌<◌, ◌≤◌, List, [], ◌∷◌, ◌++◌, length, map, get_or, sym, ap, subst, ◌∙◌, inl, inr, arith, Option, Some, None}
use Rattle.std.specs.Prelude.{IfSome}
use Rattle.std.specs.Arc.{arc_value}
use Rattle.std.specs.declared.sync.Arc.{Arc}
use Rattle.std.proofs.Math.Nat.{min-eq_left, min-eq_right}
use Rattle.std.proofs.lemmas.Bool.{cases_lt}
use Rattle.std.proofs.lemmas.List.{length-map, length_push, get_or_push, get_or_append_left, get_or_default, get_or-map}
use Rattle.std.proofs.lemmas.List.Elements.{All-get_or}
use Rattle.csg_tree.specs.HalfSpaceTrees.{Tree, nothing}
use Rattle.csg_tree.specs.Numberings.{tree_numbered, IsNumberIn}
use Rattle.csg_tree.specs.Earlier.{IsNumberOf, AreAllNumbersIn}
use Rattle.bsp_tree.specs.Shapes.{SolidParts, tree_of}
use Rattle.bsp_tree.specs.Trees.{outside}
use Rattle.bsp_boolean.specs.Solids.{solid_of}
use Rattle.bsp_boolean.specs.TreeSolids.{AreWithinSizeLimits, most_solid_size, solid_size}
use Rattle.parallel_eval.specs.Known.{shared_solids, IsKnown, AreKnown, most_known}
use Rattle.parallel_eval.proofs.Shared.{get_or-read}

module _ {Z : Type 0} where
  -- one solid more
  pub known_more : (trees : List Tree) (solids now : List (Option (Arc SolidParts Z))) (solid : Option (Arc SolidParts Z)) →
      AreKnown trees solids → now ≡ solids ++ solid ∷ [] → IsKnown (tree_numbered trees (length solids + 1)) solid → AreKnown trees now
  known_more trees solids now solid before e last =
      subst (AreKnown trees) (sym e) (λ n within. by_place n within (cases_lt n (length solids + 1)))
    where
      by_place : (n : ℕ) → IsNumberIn (solids ++ solid ∷ []) n → (n < length solids + 1) ⊎ (length solids + 1 ≤ n) →
          IsKnown (tree_numbered trees n) (get_or (solids ++ solid ∷ []) (n - 1) None)
      by_place n within (inl a) =
          subst (IsKnown (tree_numbered trees n))
          (sym (get_or_append_left solids (solid ∷ []) None (n - 1) (omega (arith, a, within.0))))
          (before n (within.0, omega (arith, a)))
      by_place n within (inr b) =
          let here : n ≡ length solids + 1 = omega (arith, b, within.1, length_push solids solid) in
          subst (IsKnown (tree_numbered trees n))
          (sym (get_or_push solids solid None (n - 1) (omega (arith, here))))
          (subst (λ (m : ℕ). IsKnown (tree_numbered trees m) solid) (sym here) last)

  -- each of the solids of all trees is known
  pub known_at : (trees : List Tree) (solids : List (Arc SolidParts Z)) (k : ℕ) (d : Arc SolidParts Z) →
      shared_solids solids ≡ map solid_of trees → AreWithinSizeLimits trees → k < length trees →
      IsKnown (tree_numbered trees (k + 1)) (Some (get_or solids k d))
  known_at trees solids k d e within h =
      let many : length solids ≡ length trees =
      sym (length-map solids (λ s. tree_of (arc_value s))) ∙ ap length e ∙ length-map trees solid_of in
      let place : k + 1 - 1 ≡ k = omega arith in
      let tree : get_or trees k nothing ≡ tree_numbered trees (k + 1) = ap (λ (i : ℕ). get_or trees i nothing) (sym place) in (
        get_or-read solids k d (omega (arith, h, many))
            ∙ ap (λ ts. get_or ts k outside) e
            ∙ get_or-map solid_of trees k nothing outside h
            ∙ ap solid_of tree,
        subst (λ (t : Tree). solid_size t ≤ most_solid_size) tree (All-get_or (λ tree. solid_size tree ≤ most_solid_size) trees k nothing h within.each),
      )

-- the number that was found for a tree
pub number_at : (earlier trees : List Tree) (numbers : List (Option ℕ)) (k : ℕ) (number : Option ℕ) → AreAllNumbersIn earlier trees numbers →
    k < length trees → number ≡ get_or numbers k number → IsNumberOf earlier (tree_numbered trees (k + 1)) number
number_at earlier trees numbers k number all h e =
    let many : length numbers ≡ length trees = all.many in
    let place : k + 1 - 1 ≡ k = omega arith in
    subst (IsNumberOf earlier (tree_numbered trees (k + 1)))
    (ap (λ (i : ℕ). get_or numbers i None) place ∙ get_or_default numbers k None number (omega (arith, h, many)) ∙ sym e)
    (all.same (k + 1) (omega arith, omega (arith, h, many)))

pub number_within : (earlier : List Tree) (tree : Tree) (number : Option ℕ) → IsNumberOf earlier tree number → IfSome number (IsNumberIn earlier)
number_within earlier tree None is = tt
number_within earlier tree (Some n) is = is.0

-- a number that stops at a greatest one, and is within a room below that, has not stopped
pub in_room : (a room : ℕ) → min a (2 ^ 64 - 1) ≤ room → room ≤ most_known → min a (2 ^ 64 - 1) ≡ a
in_room a room h few = by_size (cases_lt a (2 ^ 64 - 1)) where
  by_size : (a < 2 ^ 64 - 1) ⊎ (2 ^ 64 - 1 ≤ a) → min a (2 ^ 64 - 1) ≡ a
  by_size (inl lt) = min-eq_left (omega (arith, lt))
  by_size (inr le) = let stops = min-eq_right le in absurd (omega (arith, h, few, stops))
