-- Points off all face planes, the planes that part two of them, and what stays as it is between two points.
use Rattle.std.proofs.Common.{◌≡◌, ◌≢◌, inl, inr, ℕ, suc, ◌+◌, ◌≤◌, ◌&&◌, List, [], ◌∷◌, refl, sym, ap, ap₂, ◌∙◌, subst, arith, ℤ, pos, ◌+ℤ◌, ◌*ℤ◌, ◌<ℤ◌, unsigned_abs}
use Rattle.std.specs.Prelude.{Contains}
use Rattle.std.specs.List.{list_all}
use Rattle.plane_predicate.specs.declared.unit.Unit.{Unit as LengthUnit}
use Rattle.plane_predicate.specs.Space.{Coefficients, Coordinates, value, opposite_of, IsInWorld}
use Rattle.plane_predicate.specs.InUnits.{in_steps}
use Rattle.plane_predicate.proofs.lemmas.IntegerRing.{sums}
use Rattle.plane_predicate.proofs.lemmas.Identities.{combine}
use Rattle.plane_predicate.proofs.lemmas.Opposites.{size_of_negative}
use Rattle.plane_predicate.proofs.lemmas.Polynomials.{var, plus, times, ring}
use Rattle.plane_predicate.proofs.lemmas.Signs.{pos_pos}
use Rattle.plane_predicate.proofs.lemmas.Vectors.{value-opposite}
use Rattle.csg_tree.specs.HalfSpaceTrees.{Tree, nothing, leaf, tree_join, SideAssignment, holds, truth_of_join, IsPlaneOf}
use Rattle.csg_tree.specs.FacePlanes.{IsFacePlane}
use Rattle.bsp_tree.specs.Cells.{world_box, AllBehind}
use Rattle.bsp_tree.proofs.lemmas.Opposites.{opposite_zero, opposite_twice}
use Rattle.bsp_tree.proofs.lemmas.Worlds.{open_world}
use Rattle.closed_surface.proofs.lemmas.Each.{Each}
use Rattle.closed_surface.proofs.lemmas.Lines.{IsEither}
use Rattle.ray_crossings.specs.Positions.{IsOffFacePlanes}
use Rattle.ray_crossings.proofs.Volumes.{value_between}
use Rattle.ray_crossings.proofs.Parts.{sum_below, sum_above}
use Rattle.watertight.proofs.lemmas.Nearby.{planes_in, each_of}

-- ---- a formula holds alike under assignments that give its planes the same sides
all_alike : (planes : List Coefficients) (a b : SideAssignment) → ((m : Coefficients) → Contains planes m → a m ≡ b m) → list_all a planes ≡ list_all b planes
all_alike [] a b h = refl
all_alike (m ∷ planes) a b h = ap₂ ◌&&◌ (h m (0, omega arith, refl)) (all_alike planes a b (λ n c. h n (suc c.0, omega (arith, c.1), c.2)))

pub holds_alike : (f : Tree) (a b : SideAssignment) → ((m : Coefficients) → IsPlaneOf m f → a m ≡ b m) → holds f a ≡ holds f b
holds_alike nothing a b h = refl
holds_alike (leaf planes) a b h = all_alike planes a b h
holds_alike (tree_join op left right) a b h = ap₂ (truth_of_join op) (holds_alike left a b (λ m k. h m (inl k))) (holds_alike right a b (λ m k. h m (inr k)))

-- ---- the other orientation
pub opposite_face : (f : Tree) (n : Coefficients) → IsFacePlane n f → IsFacePlane (opposite_of n) f
opposite_face f n (inl h) = inr (subst (λ (m : Coefficients). IsPlaneOf m f) (sym (opposite_twice n)) h)
opposite_face f n (inr h) = inl h

pub opposite_either : (m n : Coefficients) → IsEither m n → IsEither m (opposite_of n)
opposite_either m n (inl e) = inr (e ∙ sym (opposite_twice n))
opposite_either m n (inr e) = inl e

pub opposite_back_either : (m n : Coefficients) → IsEither m (opposite_of n) → IsEither m n
opposite_back_either m n (inl e) = inr e
opposite_back_either m n (inr e) = inl (e ∙ opposite_twice n)

pub opposite_first : (m n : Coefficients) → IsEither (opposite_of m) n → IsEither m n
opposite_first m n (inl e) = inr (sym (opposite_twice m) ∙ ap opposite_of e)
opposite_first m n (inr e) = inl (sym (opposite_twice m) ∙ ap opposite_of e ∙ opposite_twice n)

pub opposite_same : (m n : Coefficients) → opposite_of m ≡ n → m ≡ opposite_of n
opposite_same m n e = sym (opposite_twice m) ∙ ap opposite_of e

-- ---- sizes of values
abbrev sizes : LengthUnit → List Coefficients → Coordinates → ℕ
sizes unit [] p = 0
sizes unit (m ∷ ms) p = unsigned_abs (value m (in_steps unit p)) + sizes unit ms p

each_size : (unit : LengthUnit) (ms : List Coefficients) (p : Coordinates) (number : ℕ) → sizes unit ms p ≤ number → Each (λ m. unsigned_abs (value m (in_steps unit p)) ≤ number) ms
each_size unit [] p number h = tt
each_size unit (m ∷ ms) p number h = (omega arith, each_size unit ms p number (omega arith))

least_itself : (n : ℕ) → n ≤ n
least_itself n = omega arith

abbrev pub size_of : LengthUnit → Tree → Coordinates → ℕ
size_of unit f p = sizes unit (planes_in f) p

own_size : (unit : LengthUnit) (f : Tree) (p : Coordinates) (k : Coefficients) → IsPlaneOf k f → unsigned_abs (value k (in_steps unit p)) ≤ size_of unit f p
own_size unit f p k h = each_of (λ m. unsigned_abs (value m (in_steps unit p)) ≤ size_of unit f p) f (each_size unit (planes_in f) p (size_of unit f p) (least_itself (size_of unit f p))) k h

pub plane_size : (unit : LengthUnit) (f : Tree) (p : Coordinates) (k : Coefficients) → IsFacePlane k f → unsigned_abs (value k (in_steps unit p)) ≤ size_of unit f p
plane_size unit f p k (inl h) = own_size unit f p k h
plane_size unit f p k (inr h) =
    subst (λ (n : ℕ). n ≤ size_of unit f p)
    (ap unsigned_abs (value-opposite k (in_steps unit p)) ∙ size_of_negative (value k (in_steps unit p)))
    (own_size unit f p (opposite_of k) h)

-- ---- points off all face planes
pub face_off : (unit : LengthUnit) (f : Tree) (p : Coordinates) → IsOffFacePlanes unit f p → (k : Coefficients) → IsFacePlane k f → value k (in_steps unit p) ≢ pos 0
face_off unit f p h k (inl o) = h.off k o
face_off unit f p h k (inr o) = λ e. h.off (opposite_of k) o (opposite_zero k (in_steps unit p) e)

-- ---- between two points of the world box
all_behind : (unit : LengthUnit) (u v : ℤ) (hu : pos 0 <ℤ u) (hv : pos 0 <ℤ v) (a b : Coordinates) (cell : List Coefficients) →
    AllBehind cell (in_steps unit a) → AllBehind cell (in_steps unit b) → AllBehind cell (in_steps unit (combine u a v b))
all_behind unit u v hu hv a b [] ha hb = tt
all_behind unit u v hu hv a b (m ∷ cell) ha hb = (
  sum_below u v (value m (in_steps unit a)) (value m (in_steps unit b)) (value m (in_steps unit (combine u a v b))) hu hv (value_between unit m u a v b) ha.0 hb.0,
  all_behind unit u v hu hv a b cell ha.1 hb.1,
)

pub between_world : (unit : LengthUnit) (u v : ℤ) (hu : pos 0 <ℤ u) (hv : pos 0 <ℤ v) (a b : Coordinates) →
    IsInWorld (in_steps unit a) → IsInWorld (in_steps unit b) → IsInWorld (in_steps unit (combine u a v b))
between_world unit u v hu hv a b ha hb =
    let ia = (open_world (in_steps unit a)).1 ha in let ib = (open_world (in_steps unit b)).1 hb in
    (open_world (in_steps unit (combine u a v b))).0 (record {
      weight = sum_above u v a.w b.w (combine u a v b).w hu hv refl ha.weight hb.weight;
      below = all_behind unit u v hu hv a b world_box ia.below ib.below;
    })

-- ---- ways on which each point lies on at most one face plane, by the values at both ends
abbrev pub IsAlone : LengthUnit → Tree → Coordinates → Coordinates → Type 0
IsAlone unit f a b = (s t : ℤ) → pos 0 <ℤ s → pos 0 <ℤ t → (m n : Coefficients) → IsPlaneOf m f → IsPlaneOf n f →
    s *ℤ value m (in_steps unit a) +ℤ t *ℤ value m (in_steps unit b) ≡ pos 0 →
    s *ℤ value n (in_steps unit a) +ℤ t *ℤ value n (in_steps unit b) ≡ pos 0 → IsEither m n

second_sum : (s t u v x y z : ℤ) → z ≡ u *ℤ x +ℤ v *ℤ y → s *ℤ z +ℤ t *ℤ y ≡ pos 0 → (s *ℤ u) *ℤ x +ℤ (s *ℤ v +ℤ t) *ℤ y ≡ pos 0
second_sum s t u v x y z e h =
    ring (s ∷ t ∷ u ∷ v ∷ x ∷ y ∷ []) (plus (times (times (var 0) (var 2)) (var 4)) (times (plus (times (var 0) (var 3)) (var 1)) (var 5)))
    (plus (times (var 0) (plus (times (var 2) (var 4)) (times (var 3) (var 5)))) (times (var 1) (var 5))) refl
    ∙ ap (λ (k : ℤ). s *ℤ k +ℤ t *ℤ y) (sym e) ∙ h

first_sum : (s t u v x y z : ℤ) → z ≡ u *ℤ x +ℤ v *ℤ y → s *ℤ x +ℤ t *ℤ z ≡ pos 0 → (s +ℤ t *ℤ u) *ℤ x +ℤ (t *ℤ v) *ℤ y ≡ pos 0
first_sum s t u v x y z e h =
    ring (s ∷ t ∷ u ∷ v ∷ x ∷ y ∷ []) (plus (times (plus (var 0) (times (var 1) (var 2))) (var 4)) (times (times (var 1) (var 3)) (var 5)))
    (plus (times (var 0) (var 4)) (times (var 1) (plus (times (var 2) (var 4)) (times (var 3) (var 5))))) refl
    ∙ ap (λ (k : ℤ). s *ℤ x +ℤ t *ℤ k) (sym e) ∙ h

above_sum : (x y : ℤ) → pos 0 <ℤ x → pos 0 <ℤ y → pos 0 <ℤ (x +ℤ y)
above_sum x y h k = omega (arith, sums)

module _ (unit : LengthUnit) (f : Tree) (u v : ℤ) (hu : pos 0 <ℤ u) (hv : pos 0 <ℤ v) (a b : Coordinates) (h : IsAlone unit f a b) where
  abbrev at : Coefficients → Coordinates → ℤ
  at m p = value m (in_steps unit p)

  pub alone_second : IsAlone unit f (combine u a v b) b
  alone_second s t hs ht m n hm hn em en =
      h (s *ℤ u) (s *ℤ v +ℤ t) (pos_pos s u hs hu) (above_sum (s *ℤ v) t (pos_pos s v hs hv) ht) m n hm hn
      (second_sum s t u v (at m a) (at m b) (at m (combine u a v b)) (value_between unit m u a v b) em)
      (second_sum s t u v (at n a) (at n b) (at n (combine u a v b)) (value_between unit n u a v b) en)

  pub alone_first : IsAlone unit f a (combine u a v b)
  alone_first s t hs ht m n hm hn em en =
      h (s +ℤ t *ℤ u) (t *ℤ v) (above_sum s (t *ℤ u) hs (pos_pos t u ht hu)) (pos_pos t v ht hv) m n hm hn
      (first_sum s t u v (at m a) (at m b) (at m (combine u a v b)) (value_between unit m u a v b) em)
      (first_sum s t u v (at n a) (at n b) (at n (combine u a v b)) (value_between unit n u a v b) en)
