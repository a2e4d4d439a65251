-- The planes of a solid that go through a line: one of each two that are equal or opposite.
use Rattle.std.proofs.Common.{◌≡◌, ◌⊎◌, inl, inr, Bool, true, false, not, ◌&&◌, ◌||◌, List, [], ◌∷◌, ◌++◌, refl, sym, ap, ◌∙◌, subst, true≢false, arith, ℤ, pos, ◌-ℤ◌, ◌*ℤ◌, ◌<ℤ◌}
use Rattle.std.specs.List.{list_any}
use Rattle.std.specs.Ordering.{int_eq}
use Rattle.std.proofs.Math.IntN.{*ℤ-zero, zero-*ℤ}
use Rattle.std.proofs.lemmas.Bool.{and_parts}
use Rattle.std.proofs.lemmas.Bool.Decides.{Decides-int_eq}
use Rattle.plane_predicate.specs.Space.{Coefficients, Coordinates, value, opposite_of, is_same, IsPlane, HasItsPointsOn}
use Rattle.plane_predicate.proofs.lemmas.IntegerRing.{sums, mul_comm_ℤ}
use Rattle.plane_predicate.proofs.lemmas.Signs.{zero_cancel}
use Rattle.plane_predicate.proofs.lemmas.SamePlanes.{directed_above, equal_or_opposite}
use Rattle.bsp_tree.specs.Trees.{BspTree, inside, outside, node}
use Rattle.bsp_tree.specs.Cells.{IsOfCell, IsNodePlaneOf}
use Rattle.closed_surface.specs.Ways.{Direction, displacement, dot_product, slope, line_of}
use Rattle.closed_surface.specs.Around.{triple_product_of, IsParallelToNone, HaveNoParallels}
use Rattle.closed_surface.proofs.lemmas.Parallels.{IsZero, in_planes, along_dot, line_turn, slope_way, zero_by_length}
use Rattle.closed_surface.proofs.Sectors.{same_plane, same_itself}
use Rattle.closed_surface.proofs.lemmas.Each.{Each, each_weaker, each_append, each_left, each_right}

-- the plane or its opposite
abbrev pub IsEither : Coefficients → Coefficients → Type 0
IsEither m n = (m ≡ n) ⊎ (m ≡ opposite_of n)

abbrev pub AmongEither : Coefficients → List Coefficients → Type 0
AmongEither m [] = ⊥
AmongEither m (n ∷ ns) = IsEither m n ⊎ AmongEither m ns

abbrev pub is_either : Coefficients → Coefficients → Bool
is_either m n = is_same m n || is_same m (opposite_of n)

either_by : (m n : Coefficients) (b c : Bool) → is_same m n ≡ b → is_same m (opposite_of n) ≡ c → (b || c) ≡ true → IsEither m n
either_by m n true c e f h = inl (same_plane m n e)
either_by m n false true e f h = inr (same_plane m (opposite_of n) f)
either_by m n false false e f h = absurd (true≢false (sym h))

pub either_parts : (m n : Coefficients) → is_either m n ≡ true → IsEither m n
either_parts m n h = either_by m n (is_same m n) (is_same m (opposite_of n)) refl refl h

or_right : (b c : Bool) → c ≡ true → (b || c) ≡ true
or_right true c h = refl
or_right false c h = h

pub either_is : (m n : Coefficients) → IsEither m n → is_either m n ≡ true
either_is m n (inl e) = ap (λ (b : Bool). b || is_same m (opposite_of n)) (ap (λ (k : Coefficients). is_same m k) (sym e) ∙ same_itself m)
either_is m n (inr e) = or_right (is_same m n) _ (ap (λ (k : Coefficients). is_same m k) (sym e) ∙ same_itself m)

-- ---- the planes of a solid
abbrev pub planes_of : BspTree → List Coefficients
planes_of inside = []
planes_of outside = []
planes_of (node s b a) = s.plane ∷ (planes_of b ++ planes_of a)

pub each_plane : (t : BspTree) (cell : List Coefficients) → IsOfCell cell t → Each IsPlane (planes_of t)
each_plane inside cell h = tt
each_plane outside cell h = tt
each_plane (node s b a) cell h = (h.0.plane, each_append IsPlane (planes_of b) (planes_of a) (each_plane b _ h.1) (each_plane a _ h.2))

pub each_of : (P : Coefficients → Type 0) (t : BspTree) → Each P (planes_of t) → (m : Coefficients) → IsNodePlaneOf m t → P m
each_of P inside e m k = absurd k
each_of P outside e m k = absurd k
each_of P (node s b a) e m (inl k) = subst P (sym k) e.0
each_of P (node s b a) e m (inr (inl k)) = each_of P b (each_left P (planes_of b) (planes_of a) e.1) m k
each_of P (node s b a) e m (inr (inr k)) = each_of P a (each_right P (planes_of b) (planes_of a) e.1) m k

-- ---- of planes through a point, one of each two that are equal or opposite
abbrev keep : Bool → Coefficients → List Coefficients → List Coefficients
keep true m ms = m ∷ ms
keep false m ms = ms

abbrev is_new : Coordinates → Coefficients → List Coefficients → Bool
is_new q m ms = int_eq (value m q) (pos 0) && not (list_any (is_either m) ms)

abbrev pub pick : Coordinates → List Coefficients → List Coefficients
pick q [] = []
pick q (m ∷ ms) = keep (is_new q m (pick q ms)) m (pick q ms)

keep_each : (P : Coefficients → Type 0) (b : Bool) (m : Coefficients) (ms : List Coefficients) → Each P ms → (b ≡ true → P m) → Each P (keep b m ms)
keep_each P true m ms e h = (h refl, e)
keep_each P false m ms e h = e

new_on : (q : Coordinates) (m : Coefficients) (ms : List Coefficients) → is_new q m ms ≡ true → value m q ≡ pos 0
new_on q m ms h = (Decides-int_eq (value m q) (pos 0)).0 (and_parts (int_eq (value m q) (pos 0)) (not (list_any (is_either m) ms)) h).0

pub pick_each : (P : Coefficients → Type 0) (q : Coordinates) (ms : List Coefficients) → Each (λ m. value m q ≡ pos 0 → P m) ms → Each P (pick q ms)
pick_each P q [] e = tt
pick_each P q (m ∷ ms) e = keep_each P (is_new q m (pick q ms)) m (pick q ms) (pick_each P q ms e.1) (λ h. e.0 (new_on q m (pick q ms) h))

none_parts : (b c : Bool) → not (b || c) ≡ true → (b ≡ false) × (not c ≡ true)
none_parts true c h = absurd (true≢false (sym h))
none_parts false c h = (refl, h)

no_other : (m : Coefficients) (ms : List Coefficients) → not (list_any (is_either m) ms) ≡ true → Each (λ n. IsEither m n → ⊥) ms
no_other m [] h = tt
no_other m (n ∷ ms) h =
    let w = none_parts (is_either m n) (list_any (is_either m) ms) h in ((λ e. true≢false (sym (either_is m n e) ∙ w.0)), no_other m ms w.1)

-- each plane through the point is among them, or its opposite is
any_by : (m n : Coefficients) (ms : List Coefficients) (b : Bool) → is_either m n ≡ b → (list_any (is_either m) ms ≡ true → AmongEither m ms) → (b || list_any (is_either m) ms) ≡ true → AmongEither m (n ∷ ms)
any_by m n ms true e f h = inl (either_parts m n e)
any_by m n ms false e f h = inr (f h)

any_among : (m : Coefficients) (ms : List Coefficients) → list_any (is_either m) ms ≡ true → AmongEither m ms
any_among m [] h = absurd (true≢false (sym h))
any_among m (n ∷ ms) h = any_by m n ms (is_either m n) refl (any_among m ms) h

keep_first : (b : Bool) (m : Coefficients) (ms : List Coefficients) → (b ≡ false → AmongEither m ms) → AmongEither m (keep b m ms)
keep_first true m ms h = inl (inl refl)
keep_first false m ms h = h refl

keep_later : (b : Bool) (m n : Coefficients) (ms : List Coefficients) → AmongEither n ms → AmongEither n (keep b m ms)
keep_later true m n ms h = inr h
keep_later false m n ms h = h

not_new : (b c : Bool) → b ≡ true → (b && not c) ≡ false → c ≡ true
not_new true true e h = refl
not_new true false e h = absurd (true≢false h)
not_new false c e h = absurd (true≢false (sym e))

pub pick_among : (q : Coordinates) (ms : List Coefficients) → Each (λ m. value m q ≡ pos 0 → AmongEither m (pick q ms)) ms
pick_among q [] = tt
pick_among q (m ∷ ms) = (
  λ e. keep_first (is_new q m (pick q ms)) m (pick q ms) (λ h. any_among m (pick q ms) (not_new (int_eq (value m q) (pos 0)) (list_any (is_either m) (pick q ms)) ((Decides-int_eq (value m q) (pos 0)).1 e) h)),
  each_weaker (λ n. value n q ≡ pos 0 → AmongEither n (pick q ms)) (λ n. value n q ≡ pos 0 → AmongEither n (pick q (m ∷ ms)))
      (λ n f e. keep_later (is_new q m (pick q ms)) m n (pick q ms) (f e)) ms (pick_among q ms),
)

-- ---- two planes through a line are equal or opposite, or apart
module _ (q : Coordinates) (hw : pos 0 <ℤ q.w) (v : Direction) (hv : pos 0 <ℤ dot_product v v) where
  -- a plane that goes through the line
  pub record Holds (m : Coefficients) : Type 0 where
    pub plane : IsPlane m
    pub on : value m q ≡ pos 0
    pub along : slope m v ≡ pos 0

  zero_square : (x y : ℤ) → x *ℤ y ≡ pos 0 → pos 0 <ℤ y → x ≡ pos 0
  zero_square x y e h = zero_cancel y x h (mul_comm_ℤ y x ∙ e)

  -- the two directions are multiples of one another
  no_line : (m n : Coefficients) → slope m v ≡ pos 0 → slope n v ≡ pos 0 → triple_product_of v m n ≡ pos 0 → IsZero (line_of m n)
  no_line m n hm hn e =
      let z = in_planes m n v hm hn in
      let lv = line_turn m n v ∙ e in
      zero_by_length (line_of m n)
      (zero_square (dot_product (line_of m n) (line_of m n)) (dot_product v v) (along_dot (line_of m n) v v z ∙ ap (λ (x : ℤ). x *ℤ dot_product (line_of m n) v) lv ∙ zero-*ℤ (dot_product (line_of m n) v)) hv)

  minus_zero : (u x w y : ℤ) → x ≡ pos 0 → y ≡ pos 0 → u *ℤ x -ℤ w *ℤ y ≡ pos 0
  minus_zero u x w y hx hy = rw (hx, hy, *ℤ-zero u, *ℤ-zero w) refl

  only_first : (u x w y : ℤ) → u *ℤ x -ℤ w *ℤ y ≡ pos 0 → y ≡ pos 0 → u *ℤ x ≡ pos 0
  only_first u x w y h e = omega (arith, sums, ap (λ (z : ℤ). w *ℤ z) e ∙ *ℤ-zero w)

  points_too : (m n : Coefficients) → Holds m → Holds n → IsZero (line_of m n) → HasItsPointsOn m n
  points_too m n hm hn z = record {
    points = λ p pw e.
        let a : Direction = record { x = m.a; y = m.b; z = m.c } in
        let b : Direction = record { x = n.a; y = n.b; z = n.c } in
        let u = displacement q p in
        let flat : slope m u ≡ pos 0 = slope_way m q p ∙ minus_zero q.w (value m p) p.w (value m q) e hm.on in
        let same : slope n u ≡ pos 0 = zero_cancel (dot_product a a) (dot_product b u) (directed_above m hm.plane.directed) (along_dot a b u z ∙ ap (λ (x : ℤ). dot_product a b *ℤ x) flat ∙ *ℤ-zero (dot_product a b)) in
        zero_cancel q.w (value n p) hw (only_first q.w (value n p) p.w (value n q) (sym (slope_way n q p) ∙ same) hn.on);
  }

  pub parallel_same : (m n : Coefficients) → Holds m → Holds n → triple_product_of v m n ≡ pos 0 → IsEither m n
  parallel_same m n hm hn e = equal_or_opposite m n hm.plane hn.plane (points_too m n hm hn (no_line m n hm.along hn.along e))

  apart_from : (m : Coefficients) → Holds m → (ms : List Coefficients) → Each Holds ms → Each (λ n. IsEither m n → ⊥) ms → IsParallelToNone v m ms
  apart_from m hm [] e f = tt
  apart_from m hm (n ∷ ms) e f = ((λ z. f.0 (parallel_same m n hm e.0 z)), apart_from m hm ms e.1 f.1)

  keep_apart : (b : Bool) (m : Coefficients) (ms : List Coefficients) → HaveNoParallels v ms → (b ≡ true → IsParallelToNone v m ms) → HaveNoParallels v (keep b m ms)
  keep_apart true m ms a h = (h refl, a)
  keep_apart false m ms a h = a

  pub pick_apart : (ms : List Coefficients) → Each (λ m. value m q ≡ pos 0 → Holds m) ms → HaveNoParallels v (pick q ms)
  pick_apart [] e = tt
  pick_apart (m ∷ ms) e =
      keep_apart (is_new q m (pick q ms)) m (pick q ms) (pick_apart ms e.1)
      (λ h. apart_from m (e.0 (new_on q m (pick q ms) h)) (pick q ms) (pick_each Holds q ms e.1) (no_other m (pick q ms) (and_parts (int_eq (value m q) (pos 0)) (not (list_any (is_either m) (pick q ms))) h).1))
