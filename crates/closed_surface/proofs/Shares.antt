-- What each facet has beside a line, by the planes through the line.
use Rattle.std.proofs.Common.{◌≡◌, ◌≢◌, inl, inr, Bool, true, false, not, ◌&&◌, List, [], ◌∷◌, refl, sym, ap, ap₂, ◌∙◌, subst, arith, ℤ, pos, ◌+ℤ◌, ◌-ℤ◌}
use Rattle.std.proofs.lemmas.Bool.{and_parts, and_from}
use Rattle.plane_predicate.specs.Space.{Coefficients, Coordinates, opposite_of, is_same}
use Rattle.plane_predicate.proofs.lemmas.IntegerRing.{sums}
use Rattle.plane_polygon.specs.Polygons.{Outline}
use Rattle.bsp_tree.proofs.lemmas.Opposites.{opposite_twice}
use Rattle.facet_cut.specs.Sides.{CoversFacing, HasNone, HasOne, HasOneWhere}
use Rattle.closed_surface.specs.Ways.{Direction}
use Rattle.closed_surface.specs.Around.{triple_product_of, IsParallelToNone, HaveNoParallels}
use Rattle.closed_surface.proofs.Turns.{turn_exchanged, turn_itself, opposite_turn}
use Rattle.closed_surface.proofs.Sectors.{same_plane, same_itself}
use Rattle.closed_surface.proofs.lemmas.Numbers.{false_by, negative_zero}
use Rattle.closed_surface.specs.Near.{is_strictly_within, indicator}
use Rattle.closed_surface.proofs.Covers.{within_is, is_within_parts}
use Rattle.closed_surface.proofs.lemmas.Each.{Each}
use Rattle.closed_surface.proofs.lemmas.Lines.{IsEither, AmongEither}
use Rattle.plane_predicate.specs.Sums.{sum_over}

-- 1 where the facet faces n and covers the point, else 0
abbrev pub covering : Coefficients → Coordinates → Outline → ℤ
covering n p f = indicator (is_same f.plane n && is_strictly_within f p)

-- ---- how many facets cover a point
covers : (n : Coefficients) (p : Coordinates) (f : Outline) → CoversFacing n p f → covering n p f ≡ pos 1
covers n p f h = ap indicator (and_from _ _ (ap (λ (k : Coefficients). is_same k n) h.faces ∙ same_itself n) (within_is f p h.within))

misses : (n : Coefficients) (p : Coordinates) (f : Outline) → (CoversFacing n p f → ⊥) → covering n p f ≡ pos 0
misses n p f h = ap indicator (false_by _ (λ e. (let w = and_parts (is_same f.plane n) (is_strictly_within f p) e in h (record { faces = same_plane f.plane n w.0; within = is_within_parts f p w.1 }))))

none_counted : (n : Coefficients) (p : Coordinates) (fs : List Outline) → HasNone (CoversFacing n p) fs → sum_over (covering n p) fs ≡ pos 0
none_counted n p [] h = refl
none_counted n p (f ∷ fs) h = ap₂ (λ (a b : ℤ). a +ℤ b) (misses n p f h.0) (none_counted n p fs h.1)

one_counted : (n : Coefficients) (p : Coordinates) (fs : List Outline) → HasOne (CoversFacing n p) fs → sum_over (covering n p) fs ≡ pos 1
one_counted n p [] h = absurd h
one_counted n p (f ∷ fs) (inl h) = ap₂ (λ (a b : ℤ). a +ℤ b) (covers n p f h.0) (none_counted n p fs h.1)
one_counted n p (f ∷ fs) (inr h) = ap₂ (λ (a b : ℤ). a +ℤ b) (misses n p f h.0) (one_counted n p fs h.1)

pub counted : (n : Coefficients) (p : Coordinates) (fs : List Outline) (b : Bool) → HasOneWhere b (CoversFacing n p) fs → sum_over (covering n p) fs ≡ indicator b
counted n p fs true h = one_counted n p fs h
counted n p fs false h = none_counted n p fs h

-- the two orientations together
pub number_differs : (x y : Bool) → indicator (x && not y) -ℤ indicator (y && not x) ≡ indicator x -ℤ indicator y
number_differs true true = refl
number_differs true false = refl
number_differs false true = refl
number_differs false false = refl

-- ---- planes that are apart
module _ (v : Direction) where
  turn_zero_left : (k m n : Coefficients) → IsEither k m → triple_product_of v k n ≡ pos 0 → triple_product_of v m n ≡ pos 0
  turn_zero_left k m n (inl e) h = subst (λ (x : Coefficients). triple_product_of v x n ≡ pos 0) e h
  turn_zero_left k m n (inr e) h =
      ap (λ (x : Coefficients). triple_product_of v x n) (sym (opposite_twice m) ∙ ap opposite_of (sym e)) ∙ negative_zero (triple_product_of v k n) _ (opposite_turn v k n) h

  either_turn : (k m n : Coefficients) → IsEither k m → IsEither k n → triple_product_of v m n ≡ pos 0
  either_turn k m n em en =
      let first = turn_zero_left k n k en (turn_itself v k) in
      turn_zero_left k m n em (negative_zero (triple_product_of v n k) (triple_product_of v k n) (turn_exchanged v n k) first)

  -- a plane that is one of two planes that are apart is not the other one
  pub not_among : (k m : Coefficients) (ms : List Coefficients) → IsParallelToNone v m ms → AmongEither k ms → IsEither k m → ⊥
  not_among k m [] a h e = absurd h
  not_among k m (n ∷ ms) a (inl h) e = a.0 (either_turn k m n e h)
  not_among k m (n ∷ ms) a (inr h) e = not_among k m ms a.1 h e

  pub no_others : (k m : Coefficients) (ms : List Coefficients) → IsParallelToNone v m ms → IsEither k m → Each (λ n. IsEither k n → ⊥) ms
  no_others k m [] a e = tt
  no_others k m (n ∷ ms) a e = ((λ h. a.0 (either_turn k m n e h)), no_others k m ms a.1 e)

  -- ---- one facet, and the points p and r at the two halves of n
  module _ (spot : Coefficients → Coordinates) (f : Outline) where
    abbrev pub share : Coefficients → ℤ
    share n = (covering n (spot n) f -ℤ covering (opposite_of n) (spot n) f) -ℤ (covering n (spot (opposite_of n)) f -ℤ covering (opposite_of n) (spot (opposite_of n)) f)

    abbrev pub gain : ℤ
    gain = indicator (is_strictly_within f (spot f.plane)) -ℤ indicator (is_strictly_within f (spot (opposite_of f.plane)))

    not_same : (n : Coefficients) → f.plane ≢ n → (p : Coordinates) → covering n p f ≡ pos 0
    not_same n h p = ap (λ (b : Bool). indicator (b && is_strictly_within f p)) (false_by (is_same f.plane n) (λ e. h (same_plane f.plane n e)))

    is_it : (n : Coefficients) → f.plane ≡ n → (p : Coordinates) → covering n p f ≡ indicator (is_strictly_within f p)
    is_it n h p = ap (λ (b : Bool). indicator (b && is_strictly_within f p)) (ap (λ (k : Coefficients). is_same k n) h ∙ same_itself n)

    four_zero : (a b c d : ℤ) → a ≡ pos 0 → b ≡ pos 0 → c ≡ pos 0 → d ≡ pos 0 → (a -ℤ b) -ℤ (c -ℤ d) ≡ pos 0
    four_zero a b c d ha hb hc hd = omega (arith, sums)

    pub no_share : (n : Coefficients) → (IsEither f.plane n → ⊥) → share n ≡ pos 0
    no_share n h =
        four_zero _ _ _ _ (not_same n (λ e. h (inl e)) (spot n)) (not_same (opposite_of n) (λ e. h (inr e)) (spot n)) (not_same n (λ e. h (inl e)) (spot (opposite_of n))) (not_same (opposite_of n) (λ e. h (inr e)) (spot (opposite_of n)))

    outer_two : (a b c d x y : ℤ) → a ≡ x → b ≡ pos 0 → c ≡ y → d ≡ pos 0 → (a -ℤ b) -ℤ (c -ℤ d) ≡ x -ℤ y
    outer_two a b c d x y ha hb hc hd = omega (arith, sums)

    inner_two : (a b c d x y : ℤ) → a ≡ pos 0 → b ≡ y → c ≡ pos 0 → d ≡ x → (a -ℤ b) -ℤ (c -ℤ d) ≡ x -ℤ y
    inner_two a b c d x y ha hb hc hd = omega (arith, sums)

    pub own_share : (n : Coefficients) → n ≢ opposite_of n → IsEither f.plane n → share n ≡ gain
    own_share n proper (inl e) =
        outer_two _ _ _ _ _ _
        (is_it n e (spot n) ∙ ap (λ (k : Coefficients). indicator (is_strictly_within f (spot k))) (sym e))
        (not_same (opposite_of n) (λ g. proper (sym e ∙ g)) (spot n))
        (is_it n e (spot (opposite_of n)) ∙ ap (λ (k : Coefficients). indicator (is_strictly_within f (spot (opposite_of k)))) (sym e))
        (not_same (opposite_of n) (λ g. proper (sym e ∙ g)) (spot (opposite_of n)))
    own_share n proper (inr e) =
        inner_two _ _ _ _ _ _
        (not_same n (λ g. proper (sym g ∙ e)) (spot n))
        (is_it (opposite_of n) e (spot n) ∙ ap (λ (k : Coefficients). indicator (is_strictly_within f (spot k))) (sym (opposite_twice n) ∙ ap opposite_of (sym e)))
        (not_same n (λ g. proper (sym g ∙ e)) (spot (opposite_of n)))
        (is_it (opposite_of n) e (spot (opposite_of n)) ∙ ap (λ (k : Coefficients). indicator (is_strictly_within f (spot k))) (sym e))

    no_shares : (ms : List Coefficients) → Each (λ n. IsEither f.plane n → ⊥) ms → sum_over share ms ≡ pos 0
    no_shares [] h = refl
    no_shares (n ∷ ms) h = ap₂ (λ (a b : ℤ). a +ℤ b) (no_share n h.0) (no_shares ms h.1)

    first_only : (x y g : ℤ) → x ≡ g → y ≡ pos 0 → x +ℤ y ≡ g
    first_only x y g h k = omega (arith, sums)

    later_only : (x y g : ℤ) → x ≡ pos 0 → y ≡ g → x +ℤ y ≡ g
    later_only x y g h k = omega (arith, sums)

    -- the facet's plane is one of them
    pub shares_are_gain : (ms : List Coefficients) → HaveNoParallels v ms → Each (λ n. n ≢ opposite_of n) ms → AmongEither f.plane ms → sum_over share ms ≡ gain
    shares_are_gain [] a proper h = absurd h
    shares_are_gain (n ∷ ms) a proper (inl e) = first_only _ _ _ (own_share n proper.0 e) (no_shares ms (no_others f.plane n ms a.0 e))
    shares_are_gain (n ∷ ms) a proper (inr e) = later_only _ _ _ (no_share n (not_among f.plane n ms a.0 e)) (shares_are_gain ms a.1 proper.1 e)

    -- it is none of them
    pub shares_are_none : (ms : List Coefficients) → Each (λ n. IsEither f.plane n → ⊥) ms → gain ≡ pos 0 → sum_over share ms ≡ gain
    shares_are_none ms h z = no_shares ms h ∙ sym z
