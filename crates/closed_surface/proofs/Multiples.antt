-- Tests of ways where a way is taken several times.
use Rattle.std.proofs.Common.{◌≡◌, Bool, ◌&&◌, [], ◌∷◌, refl, sym, ap, ap₂, ◌∙◌, arith, ℤ, pos, ◌+ℤ◌, ◌-ℤ◌, ◌*ℤ◌, ◌<ℤ◌, int_lt}
use Rattle.std.specs.Ordering.{int_eq}
use Rattle.std.proofs.Math.IntN.{*ℤ-zero}
use Rattle.std.proofs.lemmas.Bool.Decides.{Decides-int_eq}
use Rattle.plane_predicate.specs.declared.unit.Unit.{Unit as LengthUnit}
use Rattle.plane_predicate.specs.Space.{Coordinates, IsPointTimes}
use Rattle.plane_predicate.specs.InUnits.{in_units, in_steps}
use Rattle.plane_predicate.specs.Units.{grid_steps_per_unit}
use Rattle.plane_predicate.proofs.lemmas.IntegerRing.{sums}
use Rattle.plane_predicate.proofs.lemmas.InUnits.{steps_above}
use Rattle.plane_predicate.proofs.lemmas.Polynomials.{var, plus, times, minus, ring}
use Rattle.plane_predicate.proofs.lemmas.Signs.{pos_pos, pos_neg, pos_cancel, neg_cancel, zero_cancel}
use Rattle.closed_surface.specs.Ways.{Direction, displacement, is_same_point_of_space, is_parallel, is_same_direction, is_opposite_direction}
use Rattle.closed_surface.specs.Closed.{runs_through}
use Rattle.closed_surface.proofs.lemmas.Numbers.{below, below_back, same_tests}

-- ---- tests of a number that is taken several times
zero_times : (k x y : ℤ) → pos 0 <ℤ k → x ≡ k *ℤ y → int_eq x (pos 0) ≡ int_eq y (pos 0)
zero_times k x y h e =
    same_tests _ _
    (λ t. (Decides-int_eq y (pos 0)).1 (zero_cancel k y h (sym e ∙ (Decides-int_eq x (pos 0)).0 t)))
    (λ t. (Decides-int_eq x (pos 0)).1 (e ∙ ap (λ (z : ℤ). k *ℤ z) ((Decides-int_eq y (pos 0)).0 t) ∙ *ℤ-zero k))

above_times : (k x y : ℤ) → pos 0 <ℤ k → x ≡ k *ℤ y → int_lt (pos 0) x ≡ int_lt (pos 0) y
above_times k x y h e =
    same_tests _ _
    (λ t. below (pos 0) y (pos_cancel k y h (omega (arith, sums, below_back (pos 0) x t))))
    (λ t. below (pos 0) x (omega (arith, sums, pos_pos k y h (below_back (pos 0) y t))))

below_times : (k x y : ℤ) → pos 0 <ℤ k → x ≡ k *ℤ y → int_lt x (pos 0) ≡ int_lt y (pos 0)
below_times k x y h e =
    same_tests _ _
    (λ t. below y (pos 0) (neg_cancel k y h (omega (arith, sums, below_back x (pos 0) t))))
    (λ t. below x (pos 0) (omega (arith, sums, pos_neg k y h (below_back y (pos 0) t))))

-- ---- u is v taken k times
pub record IsMultiple (k : ℤ) (u v : Direction) : Type 0 where
  pub above : pos 0 <ℤ k
  pub x : u.x ≡ k *ℤ v.x
  pub y : u.y ≡ k *ℤ v.y
  pub z : u.z ≡ k *ℤ v.z

minor_first : (k a b c e c' d : ℤ) → a ≡ k *ℤ c → b ≡ k *ℤ e → a *ℤ d -ℤ b *ℤ c' ≡ k *ℤ (c *ℤ d -ℤ e *ℤ c')
minor_first k a b c e c' d ha hb =
    ap₂ (λ (s t : ℤ). s *ℤ d -ℤ t *ℤ c') ha hb
    ∙ ring (k ∷ c ∷ e ∷ c' ∷ d ∷ []) (minus (times (times (var 0) (var 1)) (var 4)) (times (times (var 0) (var 2)) (var 3))) (times (var 0) (minus (times (var 1) (var 4)) (times (var 2) (var 3)))) refl

minor_second : (k a b c e c' d : ℤ) → a ≡ k *ℤ c → b ≡ k *ℤ e → c' *ℤ b -ℤ d *ℤ a ≡ k *ℤ (c' *ℤ e -ℤ d *ℤ c)
minor_second k a b c e c' d ha hb =
    ap₂ (λ (s t : ℤ). c' *ℤ t -ℤ d *ℤ s) ha hb
    ∙ ring (k ∷ c ∷ e ∷ c' ∷ d ∷ []) (minus (times (var 3) (times (var 0) (var 2))) (times (var 4) (times (var 0) (var 1)))) (times (var 0) (minus (times (var 3) (var 2)) (times (var 4) (var 1)))) refl

three_first : (k a b c e f g x y z : ℤ) → a ≡ k *ℤ e → b ≡ k *ℤ f → c ≡ k *ℤ g → a *ℤ x +ℤ b *ℤ y +ℤ c *ℤ z ≡ k *ℤ (e *ℤ x +ℤ f *ℤ y +ℤ g *ℤ z)
three_first k a b c e f g x y z ha hb hc =
    rw (ha, hb, hc)
    (ring (k ∷ e ∷ f ∷ g ∷ x ∷ y ∷ z ∷ []) (plus (plus (times (times (var 0) (var 1)) (var 4)) (times (times (var 0) (var 2)) (var 5))) (times (times (var 0) (var 3)) (var 6)))
    (times (var 0) (plus (plus (times (var 1) (var 4)) (times (var 2) (var 5))) (times (var 3) (var 6)))) refl)

three_second : (k a b c e f g x y z : ℤ) → a ≡ k *ℤ e → b ≡ k *ℤ f → c ≡ k *ℤ g → x *ℤ a +ℤ y *ℤ b +ℤ z *ℤ c ≡ k *ℤ (x *ℤ e +ℤ y *ℤ f +ℤ z *ℤ g)
three_second k a b c e f g x y z ha hb hc =
    rw (ha, hb, hc)
    (ring (k ∷ e ∷ f ∷ g ∷ x ∷ y ∷ z ∷ []) (plus (plus (times (var 4) (times (var 0) (var 1))) (times (var 5) (times (var 0) (var 2)))) (times (var 6) (times (var 0) (var 3))))
    (times (var 0) (plus (plus (times (var 4) (var 1)) (times (var 5) (var 2))) (times (var 6) (var 3)))) refl)

three_tests : (a b c e f g : Bool) → a ≡ e → b ≡ f → c ≡ g → (a && (b && c)) ≡ (e && (f && g))
three_tests a b c e f g ha hb hc = rw (ha, hb, hc) refl

parallel_first : (k : ℤ) (u v w : Direction) → IsMultiple k u v → is_parallel u w ≡ is_parallel v w
parallel_first k u v w h =
    three_tests _ _ _ _ _ _
    (zero_times k _ _ h.above (minor_first k u.y u.z v.y v.z w.y w.z h.y h.z))
    (zero_times k _ _ h.above (minor_first k u.z u.x v.z v.x w.z w.x h.z h.x))
    (zero_times k _ _ h.above (minor_first k u.x u.y v.x v.y w.x w.y h.x h.y))

parallel_second : (k : ℤ) (u v w : Direction) → IsMultiple k u v → is_parallel w u ≡ is_parallel w v
parallel_second k u v w h =
    three_tests _ _ _ _ _ _
    (zero_times k _ _ h.above (minor_second k u.y u.z v.y v.z w.y w.z h.y h.z))
    (zero_times k _ _ h.above (minor_second k u.z u.x v.z v.x w.z w.x h.z h.x))
    (zero_times k _ _ h.above (minor_second k u.x u.y v.x v.y w.x w.y h.x h.y))

pub same_first : (k : ℤ) (u v w : Direction) → IsMultiple k u v → is_same_direction u w ≡ is_same_direction v w
same_first k u v w h = ap₂ (λ (a b : Bool). a && b) (parallel_first k u v w h) (above_times k _ _ h.above (three_first k u.x u.y u.z v.x v.y v.z w.x w.y w.z h.x h.y h.z))

pub same_second : (k : ℤ) (u v w : Direction) → IsMultiple k u v → is_same_direction w u ≡ is_same_direction w v
same_second k u v w h = ap₂ (λ (a b : Bool). a && b) (parallel_second k u v w h) (above_times k _ _ h.above (three_second k u.x u.y u.z v.x v.y v.z w.x w.y w.z h.x h.y h.z))

pub opposite_first : (k : ℤ) (u v w : Direction) → IsMultiple k u v → is_opposite_direction u w ≡ is_opposite_direction v w
opposite_first k u v w h = ap₂ (λ (a b : Bool). a && b) (parallel_first k u v w h) (below_times k _ _ h.above (three_first k u.x u.y u.z v.x v.y v.z w.x w.y w.z h.x h.y h.z))

-- ---- points in units and in grid steps
module _ (unit : LengthUnit) where
  abbrev steps : ℤ
  steps = grid_steps_per_unit unit

  -- a coordinate of the way to a point, of the way from it, and of the way between two
  to_point : (u aw ax k aw' ax' qw qx : ℤ) → ax ≡ k *ℤ ax' → u *ℤ aw ≡ k *ℤ aw' → aw *ℤ (u *ℤ qx) -ℤ qw *ℤ ax ≡ k *ℤ (aw' *ℤ qx -ℤ qw *ℤ ax')
  to_point u aw ax k aw' ax' qw qx hx hw =
      ring (u ∷ aw ∷ ax ∷ qw ∷ qx ∷ []) (minus (times (var 1) (times (var 0) (var 4))) (times (var 3) (var 2))) (minus (times (times (var 0) (var 1)) (var 4)) (times (var 3) (var 2))) refl
      ∙ ap₂ (λ (s t : ℤ). t *ℤ qx -ℤ qw *ℤ s) hx hw
      ∙ ring (k ∷ aw' ∷ ax' ∷ qw ∷ qx ∷ []) (minus (times (times (var 0) (var 1)) (var 4)) (times (var 3) (times (var 0) (var 2)))) (times (var 0) (minus (times (var 1) (var 4)) (times (var 3) (var 2)))) refl

  from_point : (u bw bx k bw' bx' qw qx : ℤ) → bx ≡ k *ℤ bx' → u *ℤ bw ≡ k *ℤ bw' → qw *ℤ bx -ℤ bw *ℤ (u *ℤ qx) ≡ k *ℤ (qw *ℤ bx' -ℤ bw' *ℤ qx)
  from_point u bw bx k bw' bx' qw qx hx hw =
      ring (u ∷ bw ∷ bx ∷ qw ∷ qx ∷ []) (minus (times (var 3) (var 2)) (times (var 1) (times (var 0) (var 4)))) (minus (times (var 3) (var 2)) (times (times (var 0) (var 1)) (var 4))) refl
      ∙ ap₂ (λ (s t : ℤ). qw *ℤ s -ℤ t *ℤ qx) hx hw
      ∙ ring (k ∷ bw' ∷ bx' ∷ qw ∷ qx ∷ []) (minus (times (var 3) (times (var 0) (var 2))) (times (times (var 0) (var 1)) (var 4))) (times (var 0) (minus (times (var 3) (var 2)) (times (var 1) (var 4)))) refl

  between_points : (u aw ax bw bx k aw' ax' l bw' bx' : ℤ) → ax ≡ k *ℤ ax' → u *ℤ aw ≡ k *ℤ aw' → bx ≡ l *ℤ bx' → u *ℤ bw ≡ l *ℤ bw' →
      u *ℤ (aw *ℤ bx -ℤ bw *ℤ ax) ≡ (k *ℤ l) *ℤ (aw' *ℤ bx' -ℤ bw' *ℤ ax')
  between_points u aw ax bw bx k aw' ax' l bw' bx' hx hw gx gw =
      ring (u ∷ aw ∷ ax ∷ bw ∷ bx ∷ []) (times (var 0) (minus (times (var 1) (var 4)) (times (var 3) (var 2)))) (minus (times (times (var 0) (var 1)) (var 4)) (times (times (var 0) (var 3)) (var 2))) refl
      ∙ ap₂ (λ (s t : ℤ). s *ℤ bx -ℤ t *ℤ ax) hw gw
      ∙ ap₂ (λ (s t : ℤ). (k *ℤ aw') *ℤ t -ℤ (l *ℤ bw') *ℤ s) hx gx
      ∙ ring (k ∷ l ∷ aw' ∷ ax' ∷ bw' ∷ bx' ∷ [])
      (minus (times (times (var 0) (var 2)) (times (var 1) (var 5))) (times (times (var 1) (var 4)) (times (var 0) (var 3))))
      (times (times (var 0) (var 1)) (minus (times (var 2) (var 5)) (times (var 4) (var 3)))) refl

  to_it : (a a' q : Coordinates) (h : IsPointTimes (in_units unit a) a') → IsMultiple h.by (displacement a (in_steps unit q)) (displacement a' q)
  to_it a a' q h = record {
    above = h.above;
    x = to_point steps a.w a.x h.by a'.w a'.x q.w q.x h.x h.w;
    y = to_point steps a.w a.y h.by a'.w a'.y q.w q.y h.y h.w;
    z = to_point steps a.w a.z h.by a'.w a'.z q.w q.z h.z h.w;
  }

  from_it : (b b' q : Coordinates) (h : IsPointTimes (in_units unit b) b') → IsMultiple h.by (displacement (in_steps unit q) b) (displacement q b')
  from_it b b' q h = record {
    above = h.above;
    x = from_point steps b.w b.x h.by b'.w b'.x q.w q.x h.x h.w;
    y = from_point steps b.w b.y h.by b'.w b'.y q.w q.y h.y h.w;
    z = from_point steps b.w b.z h.by b'.w b'.z q.w q.z h.z h.w;
  }

  abbrev several : Direction → Direction
  several u = record { x = steps *ℤ u.x; y = steps *ℤ u.y; z = steps *ℤ u.z }

  several_is : (u : Direction) → IsMultiple steps (several u) u
  several_is u = record { above = steps_above unit; x = refl; y = refl; z = refl }

  way_is : (a a' b b' : Coordinates) (h : IsPointTimes (in_units unit a) a') (k : IsPointTimes (in_units unit b) b') → IsMultiple (h.by *ℤ k.by) (several (displacement a b)) (displacement a' b')
  way_is a a' b b' h k = record {
    above = pos_pos h.by k.by h.above k.above;
    x = between_points steps a.w a.x b.w b.x h.by a'.w a'.x k.by b'.w b'.x h.x h.w k.x k.w;
    y = between_points steps a.w a.y b.w b.y h.by a'.w a'.y k.by b'.w b'.y h.y h.w k.y k.w;
    z = between_points steps a.w a.z b.w b.z h.by a'.w a'.z k.by b'.w b'.z h.z h.w k.z k.w;
  }

  -- ---- the tests of an edge and of a corner
  pub place_alike : (a a' q : Coordinates) → IsPointTimes (in_units unit a) a' → is_same_point_of_space a (in_steps unit q) ≡ is_same_point_of_space a' q
  place_alike a a' q h =
      let m = to_it a a' q h in three_tests _ _ _ _ _ _ (zero_times h.by _ _ m.above m.x) (zero_times h.by _ _ m.above m.y) (zero_times h.by _ _ m.above m.z)

  runs_alike : (a a' b b' q : Coordinates) → IsPointTimes (in_units unit a) a' → IsPointTimes (in_units unit b) b' → runs_through (a, b) (in_steps unit q) ≡ runs_through (a', b') q
  runs_alike a a' b b' q h k = same_first h.by _ _ (displacement (in_steps unit q) b) (to_it a a' q h) ∙ same_second k.by _ _ (displacement a' q) (from_it b b' q k)

  pub along_alike : (a a' b b' q : Coordinates) (v : Direction) → IsPointTimes (in_units unit a) a' → IsPointTimes (in_units unit b) b' →
      (runs_through (a, b) (in_steps unit q) && is_same_direction (displacement a b) v) ≡ (runs_through (a', b') q && is_same_direction (displacement a' b') v)
  along_alike a a' b b' q v h k =
      ap₂ (λ (x y : Bool). x && y) (runs_alike a a' b b' q h k)
      (sym (same_first steps (several (displacement a b)) (displacement a b) v (several_is (displacement a b))) ∙ same_first (h.by *ℤ k.by) (several (displacement a b)) (displacement a' b') v (way_is a a' b b' h k))

  pub against_alike : (a a' b b' q : Coordinates) (v : Direction) → IsPointTimes (in_units unit a) a' → IsPointTimes (in_units unit b) b' →
      (runs_through (a, b) (in_steps unit q) && is_opposite_direction (displacement a b) v) ≡ (runs_through (a', b') q && is_opposite_direction (displacement a' b') v)
  against_alike a a' b b' q v h k =
      ap₂ (λ (x y : Bool). x && y) (runs_alike a a' b b' q h k)
      (sym (opposite_first steps (several (displacement a b)) (displacement a b) v (several_is (displacement a b))) ∙ opposite_first (h.by *ℤ k.by) (several (displacement a b)) (displacement a' b') v (way_is a a' b b' h k))
