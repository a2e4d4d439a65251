-- A point of a way that is past the meeting with one plane, and before all others on that side.
use Rattle.std.proofs.Common.{◌≡◌, ◌≢◌, inl, inr, ℕ, suc, Bool, true, false, [], ◌∷◌, refl, sym, ap, ◌∙◌, subst, true≢false, arith, ℤ, pos, ◌+ℤ◌, ◌*ℤ◌, ◌<ℤ◌, neg_ℤ}
use Rattle.std.proofs.Math.IntN.{*ℤ-zero}
use Rattle.plane_predicate.specs.declared.unit.Unit.{Unit as LengthUnit}
use Rattle.plane_predicate.specs.Space.{Coefficients, Coordinates, value, opposite_of}
use Rattle.plane_predicate.specs.InUnits.{in_steps}
use Rattle.plane_predicate.proofs.lemmas.IntegerRing.{sums}
use Rattle.plane_predicate.proofs.lemmas.Identities.{combine}
use Rattle.plane_predicate.proofs.lemmas.Polynomials.{var, num, plus, times, ring}
use Rattle.plane_predicate.proofs.lemmas.Signs.{signs, pos_pos}
use Rattle.csg_tree.specs.HalfSpaceTrees.{Tree, IsPlaneOf}
use Rattle.csg_tree.specs.FacePlanes.{IsFacePlane}
use Rattle.bsp_tree.proofs.lemmas.Openness.{more_below, more_above}
use Rattle.bsp_tree.proofs.lemmas.Opposites.{opposite_zero, opposite_back}
use Rattle.closed_surface.proofs.lemmas.Lines.{IsEither, is_either, either_parts, either_is}
use Rattle.closed_surface.proofs.lemmas.Numbers.{not_zero_below, not_zero_above}
use Rattle.ray_crossings.specs.Positions.{IsOffFacePlanes}
use Rattle.ray_crossings.proofs.Volumes.{value_between}
use Rattle.ray_crossings.proofs.Meets.{on_meeting}
use Rattle.ray_crossings.proofs.Sides.{IsAlone, size_of, plane_size, opposite_first, opposite_back_either, between_world}

-- the value of the point, by that of the meeting point
regrouped : (k u v x y : ℤ) → (k *ℤ u) *ℤ x +ℤ (k *ℤ v +ℤ pos 1) *ℤ y ≡ k *ℤ (u *ℤ x +ℤ v *ℤ y) +ℤ y
regrouped k u v x y =
    ring (k ∷ u ∷ v ∷ x ∷ y ∷ []) (plus (times (times (var 0) (var 1)) (var 3)) (times (plus (times (var 0) (var 2)) (num (pos 1))) (var 4)))
    (plus (times (var 0) (plus (times (var 1) (var 3)) (times (var 2) (var 4)))) (var 4)) refl

one_more_above : (x : ℤ) → pos 0 <ℤ x → pos 0 <ℤ (x +ℤ pos 1)
one_more_above x h = omega (arith, sums)

count_above : (k : ℕ) → pos 0 <ℤ pos (suc k)
count_above k = omega (arith, sums)

only_rest : (k x y : ℤ) → x ≡ pos 0 → k *ℤ x +ℤ y ≡ y
only_rest k x y e = omega (arith, sums, ap (λ (z : ℤ). k *ℤ z) e ∙ *ℤ-zero k)

neg_above : (x : ℤ) → x <ℤ pos 0 → pos 0 <ℤ neg_ℤ x
neg_above x h = omega (arith, sums)

pub no_either : (k n : Coefficients) → IsEither k n → is_either k n ≡ false → ⊥
no_either k n h t = true≢false (sym (either_is k n h) ∙ t)

module _ (unit : LengthUnit) (f : Tree) where
  abbrev at : Coefficients → Coordinates → ℤ
  at m p = value m (in_steps unit p)

  -- the meeting point of the way from a to b with n
  abbrev pub meeting : Coefficients → Coordinates → Coordinates → Coordinates
  meeting n a b = combine (at n b) a (neg_ℤ (at n a)) b

  -- no other face plane meets the way where n does
  abbrev pub MeetsAlone : Coefficients → Coordinates → Coordinates → Type 0
  MeetsAlone n a b = (k : Coefficients) → IsFacePlane k f → (IsEither k n → ⊥) → at k (meeting n a b) ≢ pos 0

  -- a point between a and b that is past n, so little that it is on the meeting point's side of all other face planes
  pub record IsPast (n : Coefficients) (a b : Coordinates) : Type 0 where
    pub u : ℤ
    pub v : ℤ
    pub u_above : pos 0 <ℤ u
    pub v_above : pos 0 <ℤ v
    pub own : pos 0 <ℤ at n (combine u a v b)
    pub low : (k : Coefficients) → IsFacePlane k f → at k (meeting n a b) <ℤ pos 0 → at k (combine u a v b) <ℤ pos 0
    pub high : (k : Coefficients) → IsFacePlane k f → pos 0 <ℤ at k (meeting n a b) → pos 0 <ℤ at k (combine u a v b)

  module _ (n : Coefficients) (a b : Coordinates) (below_a : at n a <ℤ pos 0) (above_b : pos 0 <ℤ at n b) where
    abbrev number : ℕ
    number = size_of unit f b

    abbrev first : ℤ
    first = pos (suc number) *ℤ at n b

    abbrev second : ℤ
    second = pos (suc number) *ℤ neg_ℤ (at n a) +ℤ pos 1

    value_past : (k : Coefficients) → at k (combine first a second b) ≡ pos (suc number) *ℤ at k (meeting n a b) +ℤ at k b
    value_past k =
        value_between unit k first a second b
        ∙ regrouped (pos (suc number)) (at n b) (neg_ℤ (at n a)) (at k a) (at k b)
        ∙ ap (λ (x : ℤ). pos (suc number) *ℤ x +ℤ at k b) (sym (value_between unit k (at n b) a (neg_ℤ (at n a)) b))

    meeting_zero : at n (meeting n a b) ≡ pos 0
    meeting_zero = on_meeting (at n a) (at n b) (at n b) (neg_ℤ (at n a)) (at n (meeting n a b)) refl refl (value_between unit n (at n b) a (neg_ℤ (at n a)) b)

    pub past : IsPast n a b
    past = record {
      u = first;
      v = second;
      u_above = pos_pos (pos (suc number)) (at n b) (count_above number) above_b;
      v_above = one_more_above (pos (suc number) *ℤ neg_ℤ (at n a)) (pos_pos (pos (suc number)) (neg_ℤ (at n a)) (count_above number) (neg_above (at n a) below_a));
      own = subst (λ (x : ℤ). pos 0 <ℤ x) (sym (value_past n ∙ only_rest (pos (suc number)) (at n (meeting n a b)) (at n b) meeting_zero)) above_b;
      low = λ k h l. subst (λ (x : ℤ). x <ℤ pos 0) (sym (value_past k)) (more_below number (at k (meeting n a b)) (at k b) l (plane_size unit f b k h));
      high = λ k h g. subst (λ (x : ℤ). pos 0 <ℤ x) (sym (value_past k)) (more_above number (at k (meeting n a b)) (at k b) g (plane_size unit f b k h));
    }

    -- ---- such a point is off all face planes
    own_apart : (k : Coefficients) → (p : Coordinates) → at n p ≢ pos 0 → IsEither k n → at k p ≢ pos 0
    own_apart k p h (inl e) z = h (ap (λ (m : Coefficients). at m p) (sym e) ∙ z)
    own_apart k p h (inr e) z = h (opposite_back n (in_steps unit p) (ap (λ (m : Coefficients). at m p) (sym e) ∙ z))

    past_apart : MeetsAlone n a b → (x : IsPast n a b) → (k : Coefficients) → IsPlaneOf k f → (t : Bool) → is_either k n ≡ t → at k (combine x.u a x.v b) ≢ pos 0
    past_apart alone x k h true t = own_apart k (combine x.u a x.v b) (not_zero_above _ x.own) (either_parts k n t)
    past_apart alone x k h false t = elim (signs (at k (meeting n a b))) [
      | inl l ↦ not_zero_below _ (x.low k (inl h) l)
      | inr (inl e) ↦ absurd (alone k (inl h) (λ s. no_either k n s t) e)
      | inr (inr g) ↦ not_zero_above _ (x.high k (inl h) g)
    ]

    pub past_off : MeetsAlone n a b → (x : IsPast n a b) → IsOffFacePlanes unit f a → IsOffFacePlanes unit f b → IsOffFacePlanes unit f (combine x.u a x.v b)
    past_off alone x oa ob = record {
      world = between_world unit x.u x.v x.u_above x.v_above a b oa.world ob.world;
      off = λ k h. past_apart alone x k h (is_either k n) refl;
    }

    -- ---- where the way is in general position, no other face plane meets it there
    with_plane : IsAlone unit f a b → IsFacePlane n f → (k : Coefficients) → IsPlaneOf k f → at k (meeting n a b) ≡ pos 0 → IsEither k n
    with_plane alone (inl o) k h e =
        alone (at n b) (neg_ℤ (at n a)) above_b (neg_above (at n a) below_a) k n h o (sym (value_between unit k (at n b) a (neg_ℤ (at n a)) b) ∙ e)
        (sym (value_between unit n (at n b) a (neg_ℤ (at n a)) b) ∙ meeting_zero)
    with_plane alone (inr o) k h e =
        opposite_back_either k n
        (alone (at n b) (neg_ℤ (at n a)) above_b (neg_above (at n a) below_a) k (opposite_of n) h o (sym (value_between unit k (at n b) a (neg_ℤ (at n a)) b) ∙ e)
        (sym (value_between unit (opposite_of n) (at n b) a (neg_ℤ (at n a)) b) ∙ opposite_zero n (in_steps unit (meeting n a b)) meeting_zero))

    pub meets_alone : IsAlone unit f a b → IsFacePlane n f → MeetsAlone n a b
    meets_alone alone fp k (inl h) other e = other (with_plane alone fp k h e)
    meets_alone alone fp k (inr h) other e = other (opposite_first k n (with_plane alone fp (opposite_of k) h (opposite_zero k (in_steps unit (meeting n a b)) e)))
