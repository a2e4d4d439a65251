-- A way that touches no edge of a face tells, too: its end is moved a little, so that the way is in general position.
use Rattle.std.proofs.Common.{◌≡◌, ◌≢◌, inl, inr, ℕ, suc, ◌+◌, ◌≤◌, List, [], ◌∷◌, ◌++◌, length, map, refl, sym, ap, ap₂, ◌∙◌, subst, arith, ℤ, pos, ◌+ℤ◌, ◌-ℤ◌, ◌*ℤ◌, ◌<ℤ◌, neg_ℤ, unsigned_abs, All}
use Rattle.std.proofs.Math.IntN.{*ℤ-zero}
use Rattle.plane_predicate.specs.declared.unit.Unit.{Unit as LengthUnit}
use Rattle.plane_predicate.specs.Space.{Coefficients, Coordinates, value}
use Rattle.plane_predicate.specs.InUnits.{in_steps}
use Rattle.plane_predicate.proofs.lemmas.IntegerRing.{sums, one_mul, mul_neg_left}
use Rattle.plane_predicate.proofs.lemmas.Identities.{combine}
use Rattle.plane_predicate.proofs.lemmas.Polynomials.{var, plus, times, minus, ring}
use Rattle.plane_predicate.proofs.lemmas.Vectors.{form, place, of_plane, of_point, valueP}
use Rattle.plane_predicate.proofs.lemmas.SamePlanes.{equal_or_opposite}
use Rattle.plane_predicate.proofs.lemmas.Signs.{signs, zero_cancel}
use Rattle.csg_tree.specs.HalfSpaceTrees.{Tree, holds, sides_of, IsPlaneOf}
use Rattle.csg_tree.specs.ProperTrees.{HasFullLeaves}
use Rattle.bsp_tree.specs.Cells.{world_box, AllBehind}
use Rattle.bsp_tree.proofs.lemmas.Openness.{more_below, more_above}
use Rattle.bsp_tree.proofs.lemmas.Worlds.{open_world}
use Rattle.closed_surface.specs.Closed.{corners_at}
use Rattle.closed_surface.specs.Near.{indicator}
use Rattle.closed_surface.proofs.lemmas.Each.{Each, each_both, each_left, each_right, each_from_all, total_same}
use Rattle.closed_surface.proofs.lemmas.Lines.{IsEither}
use Rattle.closed_surface.proofs.lemmas.Numbers.{below, not_below, at_least, not_zero_below, not_zero_above}
use Rattle.off_text.specs.Reading.{IsPrintedFace}
use Rattle.off_text.specs.Bounding.{IsBoundary, IsBoundaryFace}
use Rattle.off_text.proofs.lemmas.BesideFaces.{face_plane_is_plane}
use Rattle.ray_crossings.specs.Crossings.{crossing, TouchesNoEdge}
use Rattle.ray_crossings.specs.Positions.{IsOffFacePlanes}
use Rattle.ray_crossings.proofs.Sides.{holds_alike, size_of, plane_size, IsAlone}
use Rattle.ray_crossings.proofs.Single.{height_off, Tells}
use Rattle.ray_crossings.proofs.Telling.{told_alone}
use Rattle.ray_crossings.proofs.Choice.{sizes, each_size, often_apart, once_left, value_often, zero_form, IsClearAt, IsChosen, chosen}
use Rattle.ray_crossings.proofs.Clear.{face_size, crossing_same}
use Rattle.watertight.proofs.lemmas.Nearby.{planes_in, each_of}

-- ---- numbers
zero_factor : (x y : ℤ) → x ≢ pos 0 → x *ℤ y ≡ pos 0 → y ≡ pos 0
zero_factor x y h e = elim (signs x) [
  | inl l ↦ zero_cancel (neg_ℤ x) y (omega (arith, sums)) (mul_neg_left x y ∙ ap neg_ℤ e)
  | inr (inl z) ↦ absurd (h z)
  | inr (inr g) ↦ zero_cancel x y g e
]

together_zero : (s t x y mc nc : ℤ) → s *ℤ x +ℤ t *ℤ mc ≡ pos 0 → s *ℤ y +ℤ t *ℤ nc ≡ pos 0 → t *ℤ (x *ℤ nc -ℤ y *ℤ mc) ≡ pos 0
together_zero s t x y mc nc em en =
    ring (s ∷ t ∷ x ∷ y ∷ mc ∷ nc ∷ []) (times (var 1) (minus (times (var 2) (var 5)) (times (var 3) (var 4))))
    (minus (times (var 2) (plus (times (var 0) (var 3)) (times (var 1) (var 5)))) (times (var 3) (plus (times (var 0) (var 2)) (times (var 1) (var 4))))) refl
    ∙ ap₂ (λ (u v : ℤ). x *ℤ u -ℤ y *ℤ v) en em ∙ omega (arith, sums, *ℤ-zero x, *ℤ-zero y)

only_first : (u y z : ℤ) → u -ℤ y *ℤ z ≡ pos 0 → z ≡ pos 0 → u ≡ pos 0
only_first u y z h e = omega (arith, sums, ap (λ (x : ℤ). y *ℤ x) e ∙ *ℤ-zero y)

-- ---- the form that is 0 where the ways from one point to the planes m and n meet them at once
abbrev pair : ℤ → ℤ → Coefficients → Coefficients → Coefficients
pair x y m n = record { a = x *ℤ n.a -ℤ y *ℤ m.a; b = x *ℤ n.b -ℤ y *ℤ m.b; c = x *ℤ n.c -ℤ y *ℤ m.c; d = x *ℤ n.d -ℤ y *ℤ m.d }

pair_value : (x y : ℤ) (m n : Coefficients) (p : Coordinates) → value (pair x y m n) p ≡ x *ℤ value n p -ℤ y *ℤ value m p
pair_value x y m n p =
    let M = form 0 in let N = form 4 in let P = place 8 in let X = var 12 in let Y = var 13 in
    ring (of_plane m (of_plane n (of_point p (x ∷ y ∷ []))))
    (valueP (record { a = minus (times X N.a) (times Y M.a); b = minus (times X N.b) (times Y M.b); c = minus (times X N.c) (times Y M.c); d = minus (times X N.d) (times Y M.d) }) P)
    (minus (times X (valueP N P)) (times Y (valueP M P))) refl

-- ---- all pairs of a list
abbrev pairs : (Coefficients → Coefficients → Coefficients) → List Coefficients → List Coefficients → List Coefficients
pairs g [] ns = []
pairs g (m ∷ ms) ns = map (g m) ns ++ pairs g ms ns

each_map : (P : Coefficients → Type 0) (g : Coefficients → Coefficients) (ns : List Coefficients) → Each P (map g ns) → Each (λ n. P (g n)) ns
each_map P g [] e = tt
each_map P g (n ∷ ns) e = (e.0, each_map P g ns e.1)

each_pair : (P : Coefficients → Type 0) (g : Coefficients → Coefficients → Coefficients) (ms ns : List Coefficients) → Each P (pairs g ms ns) → Each (λ m. Each (λ n. P (g m n)) ns) ms
each_pair P g [] ns e = tt
each_pair P g (m ∷ ms) ns e = (each_map P (g m) ns (each_left P (map (g m) ns) (pairs g ms ns) e), each_pair P g ms ns (each_right P (map (g m) ns) (pairs g ms ns) e))

-- ---- sums of sizes
abbrev sum_sizes : {A : Type 0} → (A → ℕ) → List A → ℕ
sum_sizes g [] = 0
sum_sizes g (x ∷ xs) = g x + sum_sizes g xs

each_sum : {A : Type 0} (g : A → ℕ) (xs : List A) (number : ℕ) → sum_sizes g xs ≤ number → Each (λ x. g x ≤ number) xs
each_sum g [] number h = tt
each_sum g (x ∷ xs) number h = (omega arith, each_sum g xs number (omega arith))

part_one : (a b c d e : ℕ) → a ≤ a + (b + (c + (d + e)))
part_one a b c d e = omega arith

part_two : (a b c d e n : ℕ) → n ≤ b → n ≤ a + (b + (c + (d + e)))
part_two a b c d e n h = omega arith

part_three : (a b c d e : ℕ) → c ≤ a + (b + (c + (d + e)))
part_three a b c d e = omega arith

part_four : (a b c d e : ℕ) → d ≤ a + (b + (c + (d + e)))
part_four a b c d e = omega arith

part_five : (a b c d e : ℕ) → e ≤ a + (b + (c + (d + e)))
part_five a b c d e = omega arith

once : (x y : ℤ) → x +ℤ pos 1 *ℤ y ≡ x +ℤ y
once x y = ap (λ (z : ℤ). x +ℤ z) (one_mul y)

pub all_stay_behind : (unit : LengthUnit) (k : ℕ) (q p : Coordinates) (ms : List Coefficients) → Each (λ m. unsigned_abs (value m (in_steps unit p)) ≤ k) ms →
    AllBehind ms (in_steps unit q) → AllBehind ms (in_steps unit (combine (pos (suc k)) q (pos 1) p))
all_stay_behind unit k q p [] e h = tt
all_stay_behind unit k q p (m ∷ ms) e h = (
  subst (λ (x : ℤ). x <ℤ pos 0) (sym (value_often unit m k q p)) (more_below k (value m (in_steps unit q)) (value m (in_steps unit p)) h.0 e.0),
  all_stay_behind unit k q p ms e.1 h.1,
)

module _ (unit : LengthUnit) (bytes : List ℕ) (f : Tree) (full : HasFullLeaves f) (text : IsBoundary unit bytes f) (a b : Coordinates)
    (oa : IsOffFacePlanes unit f a) (ob : IsOffFacePlanes unit f b) (clear : All (λ (face : List ℕ). TouchesNoEdge a b (corners_at text.vertices face)) text.faces) where
  abbrev at : Coefficients → Coordinates → ℤ
  at m p = value m (in_steps unit p)

  abbrev both : Coefficients → Coefficients → Coefficients
  both m n = pair (at m a) (at n a) m n

  abbrev forms : List Coefficients
  forms = pairs (λ m n. pair (value m (in_steps unit a)) (value n (in_steps unit a)) m n) (planes_in f) (planes_in f)

  choice : IsChosen unit (pairs (λ m n. pair (value m (in_steps unit a)) (value n (in_steps unit a)) m n) (planes_in f) (planes_in f))
  choice = chosen unit forms

  abbrev z : Coordinates
  z = choice.point

  abbrev forms_size : ℕ
  forms_size = sizes (λ c. at c z) forms

  abbrev box_size : ℕ
  box_size = sizes (λ c. at c z) world_box

  abbrev faces_size : ℕ
  faces_size = sum_sizes (λ face. face_size a z (corners_at text.vertices face)) text.faces

  abbrev number : ℕ
  number = forms_size + (size_of unit f z + (box_size + (unsigned_abs z.w + faces_size)))

  abbrev c : Coordinates
  c = combine (pos (suc number)) b (pos 1) z

  -- ---- two planes and the two points
  of_pair : (P : Coefficients → Type 0) → Each P forms → (m n : Coefficients) → IsPlaneOf m f → IsPlaneOf n f → P (both m n)
  of_pair P e m n hm hn =
      each_of (λ k. P (both m k)) f (each_of (λ j. Each (λ k. P (both j k)) (planes_in f)) f (each_pair P both (planes_in f) (planes_in f) e) m hm) n hn

  zero_at_c : (s t : ℤ) → pos 0 <ℤ t → (m n : Coefficients) → s *ℤ at m a +ℤ t *ℤ at m c ≡ pos 0 → s *ℤ at n a +ℤ t *ℤ at n c ≡ pos 0 → at (both m n) c ≡ pos 0
  zero_at_c s t ht m n em en =
      pair_value (at m a) (at n a) m n (in_steps unit c)
      ∙ zero_cancel t (at m a *ℤ at n c -ℤ at n a *ℤ at m c) ht (together_zero s t (at m a) (at n a) (at m c) (at n c) em en)

  not_at_c : (m n : Coefficients) → unsigned_abs (at (both m n) z) ≤ number → at (both m n) z ≢ pos 0 → at (both m n) c ≢ pos 0
  not_at_c m n small h e = elim (signs (at (both m n) b)) [
    | inl l ↦ often_apart number (at (both m n) b) (at (both m n) z) (not_zero_below _ l) small (sym (value_often unit (both m n) number b z) ∙ e)
    | inr (inl o) ↦ h (sym (value_often unit (both m n) number b z ∙ once_left (pos (suc number)) (at (both m n) b) (at (both m n) z) o) ∙ e)
    | inr (inr g) ↦ often_apart number (at (both m n) b) (at (both m n) z) (not_zero_above _ g) small (sym (value_often unit (both m n) number b z) ∙ e)
  ]

  same_plane : (m n : Coefficients) → IsPlaneOf m f → IsPlaneOf n f → ((p : Coordinates) → value (both m n) p ≡ pos 0) → IsEither m n
  same_plane m n hm hn e =
      equal_or_opposite m n (face_plane_is_plane f m full (inl hm)) (face_plane_is_plane f n full (inl hn))
      (record {
        points = λ p w o. zero_factor (at m a) (value n p) (oa.off m hm)
            (only_first (at m a *ℤ value n p) (at n a) (value m p) (sym (pair_value (at m a) (at n a) m n p) ∙ e p) o);
      })

  by_choice : (s t : ℤ) → pos 0 <ℤ t → (m n : Coefficients) → IsPlaneOf m f → IsPlaneOf n f → s *ℤ at m a +ℤ t *ℤ at m c ≡ pos 0 → s *ℤ at n a +ℤ t *ℤ at n c ≡ pos 0 →
      unsigned_abs (at (both m n) z) ≤ number → IsClearAt unit z (both m n) → IsEither m n
  by_choice s t ht m n hm hn em en small (inl o) = same_plane m n hm hn (zero_form (both m n) o)
  by_choice s t ht m n hm hn em en small (inr h) = absurd (not_at_c m n small h (zero_at_c s t ht m n em en))

  alone : IsAlone unit f a c
  alone s t hs ht m n hm hn em en =
      by_choice s t ht m n hm hn em en
      (of_pair (λ k. unsigned_abs (at k z) ≤ number) (each_size (λ k. at k z) forms number (part_one forms_size (size_of unit f z) box_size (unsigned_abs z.w) faces_size)) m n hm hn)
      (of_pair (IsClearAt unit z) choice.clear m n hm hn)

  -- ---- the point is near b
  small_plane : (m : Coefficients) → IsPlaneOf m f → unsigned_abs (at m z) ≤ number
  small_plane m h = part_two forms_size (size_of unit f z) box_size (unsigned_abs z.w) faces_size (unsigned_abs (at m z)) (plane_size unit f z m (inl h))

  weight_c : pos 0 <ℤ (combine (pos (suc number)) b (pos 1) z).w
  weight_c =
      subst (λ (x : ℤ). pos 0 <ℤ x) (sym (once (pos (suc number) *ℤ b.w) z.w))
      (more_above number b.w z.w ob.world.weight (part_four forms_size (size_of unit f z) box_size (unsigned_abs z.w) faces_size))

  oc : IsOffFacePlanes unit f c
  oc = record {
    world = (open_world (in_steps unit c)).0 (record {
      weight = weight_c;
      below = all_stay_behind unit number b z world_box
          (each_size (λ m. at m z) world_box number (part_three forms_size (size_of unit f z) box_size (unsigned_abs z.w) faces_size))
          ((open_world (in_steps unit b)).1 ob.world).below;
    });
    off = λ m h e. often_apart number (at m b) (at m z) (ob.off m h) (small_plane m h) (sym (value_often unit m number b z) ∙ e);
  }

  side_stays : (m : Coefficients) → IsPlaneOf m f → sides_of (in_steps unit c) m ≡ sides_of (in_steps unit b) m
  side_stays m h = elim (signs (at m b)) [
    | inl l ↦ below (at m c) (pos 0) (subst (λ (x : ℤ). x <ℤ pos 0) (sym (value_often unit m number b z)) (more_below number (at m b) (at m z) l (small_plane m h)))
        ∙ sym (below (at m b) (pos 0) l)
    | inr (inl e) ↦ absurd (ob.off m h e)
    | inr (inr g) ↦ not_below (at m c) (pos 0)
        (at_least (at m c) (subst (λ (x : ℤ). pos 0 <ℤ x) (sym (value_often unit m number b z)) (more_above number (at m b) (at m z) g (small_plane m h))))
        ∙ sym (not_below (at m b) (pos 0) (at_least (at m b) g))
  ]

  -- ---- and the way to it crosses the faces alike
  abbrev FaceFits : List ℕ → Type 0
  FaceFits face = ((IsBoundaryFace unit f text.vertices face × IsPrintedFace (length text.vertices) face) × TouchesNoEdge a b (corners_at text.vertices face))
      × (face_size a z (corners_at text.vertices face) ≤ number)

  each_fits : Each FaceFits text.faces
  each_fits =
      each_both (λ face. (IsBoundaryFace unit f text.vertices face × IsPrintedFace (length text.vertices) face) × TouchesNoEdge a b (corners_at text.vertices face))
      (λ face. face_size a z (corners_at text.vertices face) ≤ number) text.faces
      (each_both (λ face. IsBoundaryFace unit f text.vertices face × IsPrintedFace (length text.vertices) face) (λ face. TouchesNoEdge a b (corners_at text.vertices face)) text.faces
      (each_both (IsBoundaryFace unit f text.vertices) (IsPrintedFace (length text.vertices)) text.faces
      (each_from_all (IsBoundaryFace unit f text.vertices) text.faces text.bounding) (each_from_all (IsPrintedFace (length text.vertices)) text.faces text.read.loops))
      (each_from_all (λ (face : List ℕ). TouchesNoEdge a b (corners_at text.vertices face)) text.faces clear))
      (each_sum (λ face. face_size a z (corners_at text.vertices face)) text.faces number (part_five forms_size (size_of unit f z) box_size (unsigned_abs z.w) faces_size))

  face_alike : (face : List ℕ) → FaceFits face → crossing a c (corners_at text.vertices face) ≡ crossing a b (corners_at text.vertices face)
  face_alike face h =
      crossing_same a b z number oa.world.weight ob.world.weight weight_c (corners_at text.vertices face)
      (height_off unit bytes f full text h.0.0.0.plane h.0.0.0.of_formula face h.0.0.1.three h.0.0.0.faces b ob) h.1 h.0.1

  pub told_clear : Tells unit bytes f full text a b
  told_clear =
      sym (total_same FaceFits (λ face. crossing a c (corners_at text.vertices face)) (λ face. crossing a b (corners_at text.vertices face)) face_alike text.faces each_fits)
      ∙ told_alone unit bytes f full text a c oa oc alone
      ∙ ap (λ (x : ℤ). indicator (holds f (sides_of (in_steps unit a))) -ℤ x) (ap indicator (holds_alike f (sides_of (in_steps unit c)) (sides_of (in_steps unit b)) side_stays))
