-- What a ray tells: by induction on the planes that part the ends of a way, the crossings are the fall of the formula.
use Rattle.std.proofs.Common.{◌≡◌, ◌≢◌, ◌⊎◌, inl, inr, ℕ, Bool, true, false, List, [], ◌∷◌, length, refl, sym, ap, ap₂, ◌∙◌, subst, arith, ℤ, pos, ◌+ℤ◌, ◌-ℤ◌, ◌*ℤ◌, ◌<ℤ◌, neg_ℤ}
use Rattle.plane_predicate.specs.declared.unit.Unit.{Unit as LengthUnit}
use Rattle.plane_predicate.specs.Space.{Coefficients, Coordinates, value, opposite_of}
use Rattle.plane_predicate.specs.InUnits.{in_steps}
use Rattle.plane_predicate.proofs.lemmas.IntegerRing.{sums}
use Rattle.plane_predicate.proofs.lemmas.Identities.{combine}
use Rattle.plane_predicate.proofs.lemmas.Polynomials.{var, num, plus, times, minus, ring}
use Rattle.plane_predicate.proofs.lemmas.Signs.{signs, pos_pos, zero_cancel}
use Rattle.plane_predicate.proofs.lemmas.Vectors.{value-opposite}
use Rattle.csg_tree.specs.HalfSpaceTrees.{Tree, holds, sides_of, IsPlaneOf}
use Rattle.csg_tree.specs.FacePlanes.{IsFacePlane}
use Rattle.csg_tree.specs.ProperTrees.{HasFullLeaves}
use Rattle.bsp_tree.proofs.lemmas.Opposites.{opposite_above, opposite_below, behind_opposite_above}
use Rattle.closed_surface.specs.Closed.{corners_at}
use Rattle.closed_surface.specs.Near.{indicator}
use Rattle.closed_surface.proofs.lemmas.Each.{Each, each_weaker, each_both, each_from_all, total_same, total_sum, total_zero}
use Rattle.closed_surface.proofs.lemmas.Lines.{IsEither, AmongEither, is_either, either_parts}
use Rattle.closed_surface.proofs.lemmas.Numbers.{below, not_below, at_least, not_both, false_by}
use Rattle.off_text.specs.Reading.{IsPrintedFace}
use Rattle.off_text.specs.Bounding.{IsBoundary, IsBoundaryFace}
use Rattle.ray_crossings.specs.Crossings.{orientation_to_face, goes_through, crossing, crossings}
use Rattle.ray_crossings.specs.Positions.{IsOffFacePlanes, IsInGeneralPosition}
use Rattle.ray_crossings.proofs.Volumes.{value_between}
use Rattle.ray_crossings.proofs.Parts.{sum_below, sum_above, other_end, crossing_parts}
use Rattle.ray_crossings.proofs.Sides.{holds_alike, opposite_face, opposite_first, opposite_either, face_off, IsAlone, alone_first, alone_second}
use Rattle.ray_crossings.proofs.Single.{height_off, parted, Tells, single}
use Rattle.ray_crossings.proofs.Past.{meeting, MeetsAlone, IsPast, past, past_off, meets_alone, no_either}
use Rattle.watertight.proofs.lemmas.Nearby.{planes_in, each_is, each_of}

-- ---- numbers
joined_falls : (x y z p q r : ℤ) → x ≡ y +ℤ z → y ≡ p -ℤ q → z ≡ q -ℤ r → x ≡ p -ℤ r
joined_falls x y z p q r e hy hz = omega (arith, sums)

no_fall : (x y : ℤ) → x ≡ y → pos 0 ≡ x -ℤ y
no_fall x y e = omega (arith, sums)

zero_less : (x : ℤ) → pos 0 -ℤ x ≡ neg_ℤ x
zero_less x = omega (arith, sums)

-- the value at the meeting point from the other end, by that at the meeting point
scaled_meeting : (c d na nb nc x y z : ℤ) → nc ≡ c *ℤ na +ℤ d *ℤ nb → z ≡ c *ℤ x +ℤ d *ℤ y →
    neg_ℤ na *ℤ z +ℤ nc *ℤ x ≡ d *ℤ (nb *ℤ x +ℤ neg_ℤ na *ℤ y)
scaled_meeting c d na nb nc x y z hc hz =
    ap (λ (k : ℤ). neg_ℤ na *ℤ k +ℤ nc *ℤ x) hz ∙ ap (λ (k : ℤ). neg_ℤ na *ℤ (c *ℤ x +ℤ d *ℤ y) +ℤ k *ℤ x) hc
    ∙ ap (λ (k : ℤ). k *ℤ (c *ℤ x +ℤ d *ℤ y) +ℤ (c *ℤ na +ℤ d *ℤ nb) *ℤ x) (sym (zero_less na))
    ∙ ring (c ∷ d ∷ na ∷ nb ∷ x ∷ y ∷ [])
    (plus (times (minus (num (pos 0)) (var 2)) (plus (times (var 0) (var 4)) (times (var 1) (var 5)))) (times (plus (times (var 0) (var 2)) (times (var 1) (var 3))) (var 4)))
    (times (var 1) (plus (times (var 3) (var 4)) (times (minus (num (pos 0)) (var 2)) (var 5)))) refl
    ∙ ap (λ (k : ℤ). d *ℤ (nb *ℤ x +ℤ k *ℤ y)) (zero_less na)

opposite_own : (x y : ℤ) → x ≡ neg_ℤ y → pos 0 <ℤ x → y <ℤ pos 0
opposite_own x y e h = omega (arith, sums)

negated : (x y : ℤ) → x ≡ neg_ℤ y → neg_ℤ x ≡ y
negated x y e = omega (arith, sums)

module _ (unit : LengthUnit) (bytes : List ℕ) (f : Tree) (full : HasFullLeaves f) (text : IsBoundary unit bytes f) where
  abbrev at : Coefficients → Coordinates → ℤ
  at m p = value m (in_steps unit p)

  abbrev Off : Coordinates → Type 0
  Off p = IsOffFacePlanes unit f p

  abbrev Told : Coordinates → Coordinates → Type 0
  Told a b = Tells unit bytes f full text a b

  abbrev IsFaceThere : List ℕ → Type 0
  IsFaceThere face = IsBoundaryFace unit f text.vertices face × IsPrintedFace (length text.vertices) face

  each_face : Each IsFaceThere text.faces
  each_face =
      each_both (IsBoundaryFace unit f text.vertices) (IsPrintedFace (length text.vertices)) text.faces
      (each_from_all (IsBoundaryFace unit f text.vertices) text.faces text.bounding) (each_from_all (IsPrintedFace (length text.vertices)) text.faces text.read.loops)

  -- ---- both parts of a way tell of the whole
  apart : (p : Coordinates) → Off p → (face : List ℕ) → IsFaceThere face → orientation_to_face (corners_at text.vertices face) p ≢ pos 0
  apart p o face h = height_off unit bytes f full text h.0.plane h.0.of_formula face h.1.three h.0.faces p o

  crossings_parts : (u v : ℤ) → pos 0 <ℤ u → pos 0 <ℤ v → (a b : Coordinates) → Off a → Off b → Off (combine u a v b) →
      crossings a b text.vertices text.faces ≡ crossings a (combine u a v b) text.vertices text.faces +ℤ crossings (combine u a v b) b text.vertices text.faces
  crossings_parts u v hu hv a b oa ob oc =
      let c = combine u a v b in
      total_same IsFaceThere (λ face. crossing a b (corners_at text.vertices face)) (λ face. crossing a c (corners_at text.vertices face) +ℤ crossing c b (corners_at text.vertices face))
      (λ face h. crossing_parts (corners_at text.vertices face) u v hu hv a b oa.world.weight ob.world.weight (apart a oa face h) (apart b ob face h) (apart c oc face h))
      text.faces each_face
      ∙ total_sum (λ face. crossing a c (corners_at text.vertices face)) (λ face. crossing c b (corners_at text.vertices face)) text.faces

  told_parts : (u v : ℤ) → pos 0 <ℤ u → pos 0 <ℤ v → (a b : Coordinates) → Off a → Off b → Off (combine u a v b) → Told a (combine u a v b) → Told (combine u a v b) b → Told a b
  told_parts u v hu hv a b oa ob oc x y =
      let c = combine u a v b in
      joined_falls (crossings a b text.vertices text.faces) (crossings a c text.vertices text.faces) (crossings c b text.vertices text.faces)
      (indicator (holds f (sides_of (in_steps unit a)))) (indicator (holds f (sides_of (in_steps unit c)))) (indicator (holds f (sides_of (in_steps unit b))))
      (crossings_parts u v hu hv a b oa ob oc) x y

  -- ---- where no plane parts the ends
  unparted : (a b : Coordinates) → Off a → Off b → ((k : Coefficients) → IsFacePlane k f → at k a <ℤ pos 0 → pos 0 <ℤ at k b → ⊥) →
      (face : List ℕ) → IsFaceThere face → goes_through a b (corners_at text.vertices face) ≡ false
  unparted a b oa ob none face h =
      false_by (goes_through a b (corners_at text.vertices face))
      (λ e. let p = parted unit bytes f full text h.0.plane h.0.of_formula face h.1.three h.0.faces a b oa ob e in none h.0.plane h.0.of_formula p.0 p.1)

  same_side : (a b : Coordinates) → Off a → Off b → ((k : Coefficients) → IsFacePlane k f → at k a <ℤ pos 0 → pos 0 <ℤ at k b → ⊥) →
      (m : Coefficients) → IsPlaneOf m f → sides_of (in_steps unit a) m ≡ sides_of (in_steps unit b) m
  same_side a b oa ob none m h = elim (signs (at m a)) [
    | inl la ↦ elim (signs (at m b)) [
      | inl lb ↦ below (at m a) (pos 0) la ∙ sym (below (at m b) (pos 0) lb)
      | inr (inl e) ↦ absurd (ob.off m h e)
      | inr (inr gb) ↦ absurd (none m (inl h) la gb)
    ]
    | inr (inl e) ↦ absurd (oa.off m h e)
    | inr (inr ga) ↦ elim (signs (at m b)) [
      | inl lb ↦ absurd (none (opposite_of m) (opposite_face f m (inl h)) (opposite_below m (in_steps unit a) ga) (opposite_above m (in_steps unit b) lb))
      | inr (inl e) ↦ absurd (ob.off m h e)
      | inr (inr gb) ↦ not_below (at m a) (pos 0) (at_least (at m a) ga) ∙ sym (not_below (at m b) (pos 0) (at_least (at m b) gb))
    ]
  ]

  none_between : (a b : Coordinates) → Off a → Off b → ((k : Coefficients) → IsFacePlane k f → at k a <ℤ pos 0 → pos 0 <ℤ at k b → ⊥) → Told a b
  none_between a b oa ob none =
      total_zero IsFaceThere (λ face. crossing a b (corners_at text.vertices face))
      (λ face h. ap₂ (λ (x y : Bool). indicator x -ℤ indicator y) (unparted a b oa ob none face h)
      (unparted b a ob oa (λ k fp lb ga. none (opposite_of k) (opposite_face f k fp) (opposite_below k (in_steps unit a) ga) (opposite_above k (in_steps unit b) lb)) face h))
      text.faces each_face
      ∙ no_fall _ _ (ap indicator (holds_alike f (sides_of (in_steps unit a)) (sides_of (in_steps unit b)) (same_side a b oa ob none)))

  -- ---- one plane less
  abbrev AllPartingAmong : List Coefficients → Coordinates → Coordinates → Type 0
  AllPartingAmong ms a b = (k : Coefficients) → IsFacePlane k f → at k a <ℤ pos 0 → pos 0 <ℤ at k b → AmongEither k ms

  abbrev Below : List Coefficients → Type 0
  Below ms = (a b : Coordinates) → Off a → Off b → IsAlone unit f a b → AllPartingAmong ms a b → Told a b

  module _ (ms : List Coefficients) (rest : Below ms) (a b : Coordinates) (oa : Off a) (ob : Off b) (alone : IsAlone unit f a b)
      (n : Coefficients) (fp : IsFacePlane n f) (la : at n a <ℤ pos 0) (gb : pos 0 <ℤ at n b)
      (among : (k : Coefficients) → IsFacePlane k f → at k a <ℤ pos 0 → pos 0 <ℤ at k b → IsEither k n ⊎ AmongEither k ms) where
    apart_at : MeetsAlone unit f n a b
    apart_at = meets_alone unit f n a b la gb alone fp

    -- c is past n, towards b
    beyond : IsPast unit f n a b
    beyond = past unit f n a b la gb

    abbrev c : Coordinates
    c = combine beyond.u a beyond.v b

    oc : Off c
    oc = past_off unit f n a b la gb apart_at beyond oa ob

    value_c : (k : Coefficients) → at k c ≡ beyond.u *ℤ at k a +ℤ beyond.v *ℤ at k b
    value_c k = value_between unit k beyond.u a beyond.v b

    -- d is past n, towards a
    low_c : at (opposite_of n) c <ℤ pos 0
    low_c = opposite_below n (in_steps unit c) beyond.own

    high_a : pos 0 <ℤ at (opposite_of n) a
    high_a = opposite_above n (in_steps unit a) la

    other_meeting : (k : Coefficients) → at k (meeting unit f (opposite_of n) c a) ≡ beyond.v *ℤ at k (meeting unit f n a b)
    other_meeting k =
        value_between unit k (at (opposite_of n) a) c (neg_ℤ (at (opposite_of n) c)) a
        ∙ ap₂ (λ (x y : ℤ). x *ℤ at k c +ℤ y *ℤ at k a) (value-opposite n (in_steps unit a)) (negated (at (opposite_of n) c) (at n c) (value-opposite n (in_steps unit c)))
        ∙ scaled_meeting beyond.u beyond.v (at n a) (at n b) (at n c) (at k a) (at k b) (at k c) (value_c n) (value_c k)
        ∙ ap (λ (x : ℤ). beyond.v *ℤ x) (sym (value_between unit k (at n b) a (neg_ℤ (at n a)) b))

    apart_back : MeetsAlone unit f (opposite_of n) c a
    apart_back k h other e = apart_at k h (λ s. other (opposite_either k n s)) (zero_cancel beyond.v (at k (meeting unit f n a b)) beyond.v_above (sym (other_meeting k) ∙ e))

    before : IsPast unit f (opposite_of n) c a
    before = past unit f (opposite_of n) c a low_c high_a

    abbrev d : Coordinates
    d = combine before.u c before.v a

    od : Off d
    od = past_off unit f (opposite_of n) c a low_c high_a apart_back before oc oa

    low_d : at n d <ℤ pos 0
    low_d = opposite_own (at (opposite_of n) d) (at n d) (value-opposite n (in_steps unit d)) before.own

    same_d : combine before.v a before.u c ≡ d
    same_d = other_end before.v a before.u c

    -- n alone parts d from c
    never : (k : Coefficients) → IsFacePlane k f → (IsEither k n → ⊥) → at k d <ℤ pos 0 → pos 0 <ℤ at k c → ⊥
    never k h other ld gc = elim (signs (at k (meeting unit f n a b))) [
      | inl l ↦ not_both (at k c) gc (beyond.low k h l)
      | inr (inl e) ↦ apart_at k h other e
      | inr (inr g) ↦ not_both (at k d) (before.high k h (subst (λ (x : ℤ). pos 0 <ℤ x) (sym (other_meeting k)) (pos_pos beyond.v (at k (meeting unit f n a b)) beyond.v_above g))) ld
    ]

    the_plane : (k : Coefficients) → at k d <ℤ pos 0 → IsEither k n → k ≡ n
    the_plane k ld (inl e) = e
    the_plane k ld (inr e) = absurd (not_both (at n d) (behind_opposite_above n (in_steps unit d) (subst (λ (m : Coefficients). at m d <ℤ pos 0) e ld)) low_d)

    only_by : (k : Coefficients) → IsFacePlane k f → at k d <ℤ pos 0 → pos 0 <ℤ at k c → (t : Bool) → is_either k n ≡ t → k ≡ n
    only_by k h ld gc true t = the_plane k ld (either_parts k n t)
    only_by k h ld gc false t = absurd (never k h (λ s. no_either k n s t) ld gc)

    middle : Told d c
    middle = single unit bytes f full text d c od oc n fp low_d beyond.own (λ k h ld gc. only_by k h ld gc (is_either k n) refl)

    -- the way on from c
    not_own_c : (k : Coefficients) → at k c <ℤ pos 0 → pos 0 <ℤ at k b → IsEither k n ⊎ AmongEither k ms → AmongEither k ms
    not_own_c k lc g (inr h) = h
    not_own_c k lc g (inl (inl e)) = absurd (not_both (at n c) beyond.own (subst (λ (m : Coefficients). at m c <ℤ pos 0) e lc))
    not_own_c k lc g (inl (inr e)) = absurd (not_both (at (opposite_of n) b) (subst (λ (m : Coefficients). pos 0 <ℤ at m b) e g) (opposite_below n (in_steps unit b) gb))

    low_from_c : (k : Coefficients) → IsFacePlane k f → at k c <ℤ pos 0 → pos 0 <ℤ at k b → at k a <ℤ pos 0
    low_from_c k h lc g = elim (signs (at k a)) [
      | inl l ↦ l
      | inr (inl e) ↦ absurd (face_off unit f a oa k h e)
      | inr (inr x) ↦ absurd (not_both (at k c) (sum_above beyond.u beyond.v (at k a) (at k b) (at k c) beyond.u_above beyond.v_above (value_c k) x g) lc)
    ]

    onward : Told c b
    onward = rest c b oc ob (alone_second unit f beyond.u beyond.v beyond.u_above beyond.v_above a b alone) (λ k h lc g. not_own_c k lc g (among k h (low_from_c k h lc g) g))

    -- the way from a on to d
    value_d : (k : Coefficients) → at k d ≡ before.u *ℤ at k c +ℤ before.v *ℤ at k a
    value_d k = value_between unit k before.u c before.v a

    high_to_b : (k : Coefficients) → IsFacePlane k f → at k a <ℤ pos 0 → pos 0 <ℤ at k d → pos 0 <ℤ at k b
    high_to_b k h l g = elim (signs (at k b)) [
      | inl x ↦ absurd (not_both (at k d) g
          (sum_below before.u before.v (at k c) (at k a) (at k d) before.u_above before.v_above (value_d k)
          (sum_below beyond.u beyond.v (at k a) (at k b) (at k c) beyond.u_above beyond.v_above (value_c k) l x) l))
      | inr (inl e) ↦ absurd (face_off unit f b ob k h e)
      | inr (inr x) ↦ x
    ]

    not_own_d : (k : Coefficients) → at k a <ℤ pos 0 → pos 0 <ℤ at k d → IsEither k n ⊎ AmongEither k ms → AmongEither k ms
    not_own_d k l g (inr h) = h
    not_own_d k l g (inl (inl e)) = absurd (not_both (at n d) (subst (λ (m : Coefficients). pos 0 <ℤ at m d) e g) low_d)
    not_own_d k l g (inl (inr e)) = absurd (not_both (at (opposite_of n) a) high_a (subst (λ (m : Coefficients). at m a <ℤ pos 0) e l))

    alone_to_d : IsAlone unit f a d
    alone_to_d =
        subst (λ (p : Coordinates). IsAlone unit f a p) same_d
        (alone_first unit f before.v before.u before.v_above before.u_above a c (alone_first unit f beyond.u beyond.v beyond.u_above beyond.v_above a b alone))

    start : Told a d
    start = rest a d oa od alone_to_d (λ k h l g. not_own_d k l g (among k h l (high_to_b k h l g)))

    up_to_c : Told a c
    up_to_c =
        told_parts before.v before.u before.v_above before.u_above a c oa oc (subst Off (sym same_d) od)
        (subst (λ (p : Coordinates). Told a p) (sym same_d) start) (subst (λ (p : Coordinates). Told p c) (sym same_d) middle)

    one_more : Told a b
    one_more = told_parts beyond.u beyond.v beyond.u_above beyond.v_above a b oa ob oc up_to_c onward

  -- ---- the induction
  less : (m : Coefficients) (ms : List Coefficients) (a b : Coordinates) → (at m a <ℤ pos 0 → at m b <ℤ pos 0) → (pos 0 <ℤ at m a → pos 0 <ℤ at m b) →
      (k : Coefficients) → at k a <ℤ pos 0 → pos 0 <ℤ at k b → AmongEither k (m ∷ ms) → AmongEither k ms
  less m ms a b x y k l g (inr h) = h
  less m ms a b x y k l g (inl (inl e)) =
      absurd (not_both (at m b) (subst (λ (n : Coefficients). pos 0 <ℤ at n b) e g) (x (subst (λ (n : Coefficients). at n a <ℤ pos 0) e l)))
  less m ms a b x y k l g (inl (inr e)) =
      absurd (not_both (at (opposite_of m) b) (subst (λ (n : Coefficients). pos 0 <ℤ at n b) e g)
      (opposite_below m (in_steps unit b) (y (behind_opposite_above m (in_steps unit a) (subst (λ (n : Coefficients). at n a <ℤ pos 0) e l)))))

  either_first : (k m : Coefficients) (ms : List Coefficients) → AmongEither k (m ∷ ms) → IsEither k (opposite_of m) ⊎ AmongEither k ms
  either_first k m ms (inl h) = inl (opposite_either k m h)
  either_first k m ms (inr h) = inr h

  tells : (ms : List Coefficients) → Each (λ m. IsPlaneOf m f) ms → Below ms
  tells [] e a b oa ob alone among = none_between a b oa ob among
  tells (m ∷ ms) e a b oa ob alone among = elim (signs (at m a)) [
    | inl la ↦ elim (signs (at m b)) [
      | inl lb ↦ tells ms e.1 a b oa ob alone (λ k h l g. less m ms a b (λ x. lb) (λ x. absurd (not_both (at m a) x la)) k l g (among k h l g))
      | inr (inl z) ↦ absurd (ob.off m e.0 z)
      | inr (inr gb) ↦ one_more ms (tells ms e.1) a b oa ob alone m (inl e.0) la gb among
    ]
    | inr (inl z) ↦ absurd (oa.off m e.0 z)
    | inr (inr ga) ↦ elim (signs (at m b)) [
      | inl lb ↦ one_more ms (tells ms e.1) a b oa ob alone (opposite_of m) (opposite_face f m (inl e.0)) (opposite_below m (in_steps unit a) ga) (opposite_above m (in_steps unit b) lb)
          (λ k h l g. either_first k m ms (among k h l g))
      | inr (inl z) ↦ absurd (ob.off m e.0 z)
      | inr (inr gb) ↦ tells ms e.1 a b oa ob alone (λ k h l g. less m ms a b (λ x. absurd (not_both (at m a) ga x)) (λ x. gb) k l g (among k h l g))
    ]
  ]

  each_among : (ms : List Coefficients) → Each (λ m. AmongEither m ms) ms
  each_among [] = tt
  each_among (m ∷ ms) = (inl (inl refl), each_weaker (λ k. AmongEither k ms) (λ k. AmongEither k (m ∷ ms)) (λ k h. inr h) ms (each_among ms))

  opposite_among : (k : Coefficients) (ms : List Coefficients) → AmongEither (opposite_of k) ms → AmongEither k ms
  opposite_among k [] h = h
  opposite_among k (m ∷ ms) (inl h) = inl (opposite_first k m h)
  opposite_among k (m ∷ ms) (inr h) = inr (opposite_among k ms h)

  is_among : (k : Coefficients) → IsFacePlane k f → AmongEither k (planes_in f)
  is_among k (inl h) = each_of (λ m. AmongEither m (planes_in f)) f (each_among (planes_in f)) k h
  is_among k (inr h) = opposite_among k (planes_in f) (each_of (λ m. AmongEither m (planes_in f)) f (each_among (planes_in f)) (opposite_of k) h)

  as_alone : (a b : Coordinates) → IsInGeneralPosition unit f a b → IsAlone unit f a b
  as_alone a b h s t hs ht m n hm hn em en = h.one_plane s t hs ht m n hm hn (value_between unit m s a t b ∙ em) (value_between unit n s a t b ∙ en)

  pub told_alone : (a b : Coordinates) → Off a → Off b → IsAlone unit f a b → Told a b
  told_alone a b oa ob alone = tells (planes_in f) (each_is f) a b oa ob alone (λ k fp l g. is_among k fp)

  pub told : (a b : Coordinates) → IsInGeneralPosition unit f a b → Told a b
  told a b h = told_alone a b h.start h.end (as_alone a b h)
