-- Trees in order of number pass one limit of size first, or none.
use Rattle.std.proofs.Common.{◌≡◌, ◌⊎◌, ℕ, zero, suc, ◌-◌, ◌<◌, ◌≤◌, List, [], ◌∷◌, take, length, refl, sym, ap, subst, inl, inr, arith}
use Rattle.std.proofs.lemmas.Bool.{cases_lt}
use Rattle.std.proofs.lemmas.List.{get_or-take, length-take-le, take_all}
use Rattle.std.proofs.lemmas.List.Sums.{sum_by-take-le}
use Rattle.std.proofs.lemmas.List.Elements.{All-nil, All-get_or}
use Rattle.csg_tree.specs.HalfSpaceTrees.{Tree, nothing}
use Rattle.csg_tree.specs.Numberings.{tree_numbered, IsNumberIn}
use Rattle.bsp_boolean.specs.TreeSolids.{most_solid_size, most_total_size, solid_size, total_size, AreWithinSizeLimits}
use Rattle.export_limits.specs.declared.passed.PassedLimit.{PassedLimit}
use Rattle.export_limits.specs.declared.passed.PassedLimit.TheVariants as limit
use Rattle.tree_export.specs.Exports.{IsFirstPassed}

-- without trees no limit is passed
pub no_trees : AreWithinSizeLimits []
no_trees = record { each = All-nil (λ tree. solid_size tree ≤ most_solid_size); together = omega arith }

-- a limit is passed at a number, and none before it
record Passes (trees : List Tree) (n : ℕ) : Type 0 where
  pub number : IsNumberIn trees n
  pub before : AreWithinSizeLimits (take (n - 1) trees)
  pub past : (most_solid_size < solid_size (tree_numbered trees n)) ⊎ (most_total_size < total_size (take n trees))

take_take : (k n : ℕ) (trees : List Tree) → n ≤ k → take n (take k trees) ≡ take n trees
take_take k zero trees low = refl
take_take zero (suc n) trees low = absurd (omega (arith, low))
take_take (suc k) (suc n) [] low = refl
take_take (suc k) (suc n) (t ∷ trees) low = ap (λ (ts : List Tree). t ∷ ts) (take_take k n trees (omega (arith, low)))

-- trees within the limits pass none
none_within : (trees : List Tree) (n : ℕ) → AreWithinSizeLimits trees → IsNumberIn trees n →
    (most_solid_size < solid_size (tree_numbered trees n)) ⊎ (most_total_size < total_size (take n trees)) → ⊥
none_within trees n within number (inl past) =
    let one = All-get_or (λ tree. solid_size tree ≤ most_solid_size) trees (n - 1) nothing (omega (arith, number.0, number.1)) within.each in
    omega (arith, one, past)
none_within trees n within number (inr past) = omega (arith, within.together, sum_by-take-le solid_size trees n, past)

pub none_passed : (trees : List Tree) (passed : PassedLimit) → AreWithinSizeLimits trees → IsFirstPassed trees passed → ⊥
none_passed trees (limit.Solid n) within h = none_within trees n within h.0 (inl h.2)
none_passed trees (limit.Sum n) within h = none_within trees n within h.0 (inr h.3)
none_passed trees limit.Facets within h = h
none_passed trees limit.Corners within h = h
none_passed trees limit.Vertices within h = h

-- no number comes before another
not_before : (trees : List Tree) (n m : ℕ) → n < m → Passes trees n → Passes trees m → ⊥
not_before trees n m less a b =
    let front = take (m - 1) trees in
    let long : length front ≡ m - 1 = length-take-le (m - 1) trees (omega (arith, b.number.1)) in
    let low : IsNumberIn front n = (a.number.0, omega (arith, long, less)) in
    let same : tree_numbered front n ≡ tree_numbered trees n = get_or-take (m - 1) trees (n - 1) nothing (omega (arith, less, a.number.0)) in
    let begins : take n front ≡ take n trees = take_take (m - 1) n trees (omega (arith, less)) in
    let past = subst (λ (xs : List Tree). (most_solid_size < solid_size (tree_numbered trees n)) ⊎ (most_total_size < total_size xs)) (sym begins) a.past in
    none_within front n b.before low
    (subst (λ (t : Tree). (most_solid_size < solid_size t) ⊎ (most_total_size < total_size (take n front))) (sym same) past)

one_number : (trees : List Tree) (n m : ℕ) → Passes trees n → Passes trees m → n ≡ m
one_number trees n m a b = by_order (cases_lt n m) (cases_lt m n)
  where
    by_order : (n < m) ⊎ (m ≤ n) → (m < n) ⊎ (n ≤ m) → n ≡ m
    by_order (inl less) other = absurd (not_before trees n m less a b)
    by_order (inr more) (inl less) = absurd (not_before trees m n less b a)
    by_order (inr more) (inr same) = omega (arith, more, same)

solid_passes : (trees : List Tree) (n : ℕ) → IsFirstPassed trees (limit.Solid n) → Passes trees n
solid_passes trees n h = record { number = h.0; before = h.1; past = inl h.2 }

sum_passes : (trees : List Tree) (n : ℕ) → IsFirstPassed trees (limit.Sum n) → Passes trees n
sum_passes trees n h = record { number = h.0; before = h.1; past = inr h.3 }

not_both : (trees : List Tree) (n m : ℕ) → IsFirstPassed trees (limit.Solid n) → IsFirstPassed trees (limit.Sum m) → ⊥
not_both trees n m a b =
    let same = one_number trees n m (solid_passes trees n a) (sum_passes trees m b) in
    omega (arith, a.2, b.2, ap (λ k. solid_size (tree_numbered trees k)) same)

pub one_passed : (trees : List Tree) (a b : PassedLimit) → IsFirstPassed trees a → IsFirstPassed trees b → a ≡ b
one_passed trees (limit.Solid n) (limit.Solid m) h g = ap limit.Solid (one_number trees n m (solid_passes trees n h) (solid_passes trees m g))
one_passed trees (limit.Solid n) (limit.Sum m) h g = absurd (not_both trees n m h g)
one_passed trees (limit.Sum n) (limit.Solid m) h g = absurd (not_both trees m n g h)
one_passed trees (limit.Sum n) (limit.Sum m) h g = ap limit.Sum (one_number trees n m (sum_passes trees n h) (sum_passes trees m g))
one_passed trees (limit.Solid n) limit.Facets h g = absurd g
one_passed trees (limit.Solid n) limit.Corners h g = absurd g
one_passed trees (limit.Solid n) limit.Vertices h g = absurd g
one_passed trees (limit.Sum n) limit.Facets h g = absurd g
one_passed trees (limit.Sum n) limit.Corners h g = absurd g
one_passed trees (limit.Sum n) limit.Vertices h g = absurd g
one_passed trees limit.Facets b h g = absurd h
one_passed trees limit.Corners b h g = absurd h
one_passed trees limit.Vertices b h g = absurd h

-- the first trees are within the limits, or a first limit is passed
abbrev pub IsSettled : List Tree → List Tree → Type 0
IsSettled trees front = AreWithinSizeLimits front ⊎ ((passed : PassedLimit) × IsFirstPassed trees passed)

-- ---- a limit is passed, or none is: one tree more is within the limits where its own size and the sum are
module _ (trees : List Tree) (more : (n : ℕ) → IsNumberIn trees n → AreWithinSizeLimits (take (n - 1) trees) →
    solid_size (tree_numbered trees n) ≤ most_solid_size → total_size (take n trees) ≤ most_total_size → AreWithinSizeLimits (take n trees)) where
  one_more : (n : ℕ) → IsNumberIn trees n → AreWithinSizeLimits (take (n - 1) trees) → IsSettled trees (take n trees)
  one_more n number before =
      elim (cases_lt most_solid_size (solid_size (tree_numbered trees n))) [
        | inl past ↦ inr (limit.Solid n, (number, before, past))
        | inr one ↦
            elim (cases_lt most_total_size (total_size (take n trees))) [
              | inl past ↦ inr (limit.Sum n, (number, before, one, past))
              | inr all ↦ inl (more n number before one all)
            ]
      ]

  first_ones : (n : ℕ) → n ≤ length trees → IsSettled trees (take n trees)
  first_ones zero h = inl no_trees
  first_ones (suc n) h =
      let back : n ≡ suc n - 1 = omega arith in
      elim (first_ones n (omega (arith, h))) [
        | inl within ↦ one_more (suc n) (omega arith, h) (subst (λ (k : ℕ). AreWithinSizeLimits (take k trees)) back within)
        | inr passed ↦ inr passed
      ]

  pub some_passed : IsSettled trees trees
  some_passed = subst (IsSettled trees) (take_all (length trees) trees (omega arith)) (first_ones (length trees) (omega arith))
