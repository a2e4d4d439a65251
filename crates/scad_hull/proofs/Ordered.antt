-- The different points ascend strictly, and are the given ones.
use Rattle.std.proofs.Common.{◌≡◌, ◌⊎◌, ◌↔◌, inl, inr, ℕ, zero, suc, ◌<◌, ℤ, int_cmp, List, [], ◌∷◌, length, get_or, fold, Contains, refl, sym, ap, ap₂, ◌∙◌, arith, Less, Equal, Greater, Ordering, is_eq}
use Rattle.std.specs.Cmp.{IsTotalOrder, int_cmp_total}
use Rattle.std.specs.Cmp.Lexicographic.{lists_total, slice_cmp}
use Rattle.std.specs.List.{AllByRecursion}
use Rattle.std.specs.List.Sorted.{IsStrictlySortedBy}
use Rattle.std.specs.Ordering.{ordering_reverse, ordering_then}
use Rattle.std.proofs.lemmas.Bool.Decides.{Decides-int_eq}
use Rattle.scad_hull.specs.Hulls.{points_in_order, point_put_among}
use Rattle.scad_hull.proofs.lemmas.Members.{found_at, IsAmong}

abbrev by : List ℤ → List ℤ → Ordering
by p q = slice_cmp int_cmp p q

order : IsTotalOrder (slice_cmp int_cmp)
order = lists_total int_cmp_total

flipped : (p q : List ℤ) → by q p ≡ Greater → by p q ≡ Less
flipped p q e = order.antisymm p q ∙ ap ordering_reverse e

-- ---- order
all_after : (p q : List ℤ) (points : List (List ℤ)) → by p q ≡ Less → AllByRecursion (λ r. by q r ≡ Less) points → AllByRecursion (λ r. by p r ≡ Less) points
all_after p q [] e h = tt
all_after p q (r ∷ points) e h = (order.trans p q r e h.0, all_after p q points e h.1)

put_after_by : (q p r : List ℤ) (points : List (List ℤ)) (o : Ordering) → by q p ≡ Less → AllByRecursion (λ s. by q s ≡ Less) (r ∷ points) → AllByRecursion (λ s. by q s ≡ Less) (point_put_among p points) → AllByRecursion (λ s. by q s ≡ Less) (elim o [ Less ↦ r ∷ point_put_among p points | Equal ↦ r ∷ points | Greater ↦ p ∷ r ∷ points ])
put_after_by q p r points Less e h k = (h.0, k)
put_after_by q p r points Equal e h k = h
put_after_by q p r points Greater e h k = (e, h)

put_after : (q p : List ℤ) (points : List (List ℤ)) → by q p ≡ Less → AllByRecursion (λ r. by q r ≡ Less) points → AllByRecursion (λ r. by q r ≡ Less) (point_put_among p points)
put_after q p [] e h = (e, tt)
put_after q p (r ∷ points) e h = put_after_by q p r points (by r p) e h (put_after q p points e h.1)

sorted_by : (p q : List ℤ) (points : List (List ℤ)) (o : Ordering) → by q p ≡ o → IsStrictlySortedBy (slice_cmp int_cmp) (q ∷ points) → IsStrictlySortedBy (slice_cmp int_cmp) (point_put_among p points) → IsStrictlySortedBy (slice_cmp int_cmp) (elim o [ Less ↦ q ∷ point_put_among p points | Equal ↦ q ∷ points | Greater ↦ p ∷ q ∷ points ])
unfolding IsStrictlySortedBy
sorted_by p q points Less e h k = (put_after q p points e h.0, k)
sorted_by p q points Equal e h k = h
sorted_by p q points Greater e h k = ((flipped p q e, all_after p q points (flipped p q e) h.0), h)

sorted_put : (p : List ℤ) (points : List (List ℤ)) → IsStrictlySortedBy (slice_cmp int_cmp) points → IsStrictlySortedBy (slice_cmp int_cmp) (point_put_among p points)
unfolding IsStrictlySortedBy
sorted_put p [] h = (tt, tt)
sorted_put p (q ∷ points) h = sorted_by p q points (by q p) refl h (sorted_put p points h.1)

sorted_fold : (points given : List (List ℤ)) → IsStrictlySortedBy (slice_cmp int_cmp) points → IsStrictlySortedBy (slice_cmp int_cmp) (fold (λ ps p. point_put_among p ps) points given)
sorted_fold points [] h = h
sorted_fold points (p ∷ given) h = sorted_fold (point_put_among p points) given (sorted_put p points h)

pub ascending : (given : List (List ℤ)) → IsStrictlySortedBy (slice_cmp int_cmp) (points_in_order given)
unfolding IsStrictlySortedBy
ascending given = sorted_fold [] given tt

-- ---- members
both_equal : (o r : Ordering) → ordering_then o r ≡ Equal → (o ≡ Equal) × (r ≡ Equal)
both_equal Less r e = cc
both_equal Equal r e = (refl, e)
both_equal Greater r e = cc

exact : (p q : List ℤ) → by p q ≡ Equal → p ≡ q
exact [] [] e = refl
exact [] (y ∷ q) e = cc
exact (x ∷ p) [] e = cc
exact (x ∷ p) (y ∷ q) e =
    let parts = both_equal (int_cmp x y) (slice_cmp int_cmp p q) e in
    ap₂ (λ (z : ℤ) (zs : List ℤ). z ∷ zs) ((Decides-int_eq x y).0 (ap is_eq parts.0)) (exact p q parts.1)

abbrev Either : List ℤ → List ℤ → List (List ℤ) → Type 0
Either r p points = (r ≡ p) ⊎ IsAmong r points

put_members_by : (r p q : List ℤ) (points : List (List ℤ)) (o : Ordering) → by q p ≡ o → (IsAmong r (point_put_among p points) ↔ Either r p points) → IsAmong r (elim o [ Less ↦ q ∷ point_put_among p points | Equal ↦ q ∷ points | Greater ↦ p ∷ q ∷ points ]) ↔ Either r p (q ∷ points)
put_members_by r p q points Less e h = (
  λ m. elim m [ inl s ↦ inr (inl s) | inr n ↦ elim (h.0 n) [ inl s ↦ inl s | inr k ↦ inr (inr k) ] ],
  λ m. elim m [ inl s ↦ inr (h.1 (inl s)) | inr n ↦ elim n [ inl s ↦ inl s | inr k ↦ inr (h.1 (inr k)) ] ],
)
put_members_by r p q points Equal e h = (λ m. inr m, λ m. elim m [ inl s ↦ inl (s ∙ sym (exact q p e)) | inr n ↦ n ])
put_members_by r p q points Greater e h = (λ m. m, λ m. m)

put_members : (r p : List ℤ) (points : List (List ℤ)) → IsAmong r (point_put_among p points) ↔ Either r p points
put_members r p [] = (λ m. m, λ m. m)
put_members r p (q ∷ points) = put_members_by r p q points (by q p) refl (put_members r p points)

abbrev OneOf : List ℤ → List (List ℤ) → List (List ℤ) → Type 0
OneOf r points given = IsAmong r points ⊎ IsAmong r given

fold_members : (r : List ℤ) (points given : List (List ℤ)) → IsAmong r (fold (λ ps p. point_put_among p ps) points given) ↔ OneOf r points given
fold_members r points [] = (λ m. inl m, λ m. elim m [ inl n ↦ n | inr n ↦ absurd n ])
fold_members r points (p ∷ given) =
    let more = fold_members r (point_put_among p points) given in
    let here = put_members r p points in (
      λ m. elim (more.0 m) [ inl n ↦ elim (here.0 n) [ inl s ↦ inr (inl s) | inr k ↦ inl k ] | inr n ↦ inr (inr n) ],
      λ m. more.1 (elim m [ inl n ↦ inl (here.1 (inr n)) | inr n ↦ elim n [ inl s ↦ inl (here.1 (inl s)) | inr k ↦ inr k ] ]),
    )

contained : (r : List ℤ) (points : List (List ℤ)) → IsAmong r points → Contains points r
contained r points m = let f = found_at r points m in (f.place, f.within, f.is r)

among_at : (r : List ℤ) (points : List (List ℤ)) (k : ℕ) → k < length points → get_or points k r ≡ r → IsAmong r points
among_at r [] k lt e = absurd (omega (arith, lt))
among_at r (p ∷ points) zero lt e = inl (sym e)
among_at r (p ∷ points) (suc k) lt e = inr (among_at r points k (omega (arith, lt)) e)

among : (r : List ℤ) (points : List (List ℤ)) → Contains points r → IsAmong r points
among r points c = among_at r points c.0 c.1 c.2

pub members : (given : List (List ℤ)) (p : List ℤ) → Contains (points_in_order given) p ↔ Contains given p
members given p =
    let all = fold_members p [] given in (
      λ c. elim (all.0 (among p (points_in_order given) c)) [ inl n ↦ absurd n | inr n ↦ contained p given n ],
      λ c. contained p (points_in_order given) (all.1 (inr (among p given c))),
    )
