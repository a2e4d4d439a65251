-- The walk of a solid just beside a half plane at a line, from the sides of the planes through the line alone.
use Rattle.std.proofs.Common.{◌≡◌, ◌≢◌, ◌⊎◌, inl, inr, ℕ, Bool, true, false, not, if◌then◌else◌, List, [], ◌∷◌, refl, sym, ap, ◌∙◌, true≢false, arith, ℤ, pos, neg_ℤ, int_lt}
use Rattle.plane_predicate.specs.Space.{Coefficients, Coordinates, value, opposite_of, is_same}
use Rattle.plane_predicate.proofs.lemmas.IntegerRing.{sums}
use Rattle.plane_predicate.proofs.lemmas.Signs.{signs}
use Rattle.plane_predicate.proofs.lemmas.Vectors.{value-opposite}
use Rattle.plane_polygon.specs.Parts.{is_behind}
use Rattle.bsp_tree.specs.Trees.{BspTree, inside, outside, node}
use Rattle.bsp_tree.specs.Cells.{IsNodePlaneOf}
use Rattle.bsp_tree.proofs.lemmas.Opposites.{opposite_twice}
use Rattle.facet_cut.specs.Sides.{walk_by, AreJustBehind, AreJustAhead}
use Rattle.closed_surface.specs.Ways.{Direction}
use Rattle.closed_surface.specs.Around.{triple_product_of, sides_at}
use Rattle.closed_surface.proofs.Sectors.{same_plane, same_itself}
use Rattle.closed_surface.proofs.lemmas.Numbers.{below, not_below, false_by}
use Rattle.closed_surface.specs.Near.{near_point, direction_beside}
use Rattle.closed_surface.proofs.lemmas.Near.{near_on, slope_beside}
use Rattle.closed_surface.proofs.lemmas.Each.{Each}
use Rattle.closed_surface.proofs.lemmas.Lines.{AmongEither}

-- ---- a walk needs the sides of the solid's planes alone
either_alike : (x y : Bool) (a b c d : Bool) → x ≡ y → a ≡ c → b ≡ d → (if x then a else b) ≡ (if y then c else d)
either_alike x y a b c d hx ha hb = rw (hx, ha, hb) refl

pub walk_alike : (t : BspTree) (sides other : Coefficients → Bool) → ((m : Coefficients) → IsNodePlaneOf m t → sides m ≡ other m) → walk_by t sides ≡ walk_by t other
walk_alike inside sides other h = refl
walk_alike outside sides other h = refl
walk_alike (node s b a) sides other h =
    either_alike (sides s.plane) (other s.plane) (walk_by b sides) (walk_by a sides) (walk_by b other) (walk_by a other)
    (h s.plane (inl refl)) (walk_alike b sides other (λ m k. h m (inr (inl k)))) (walk_alike a sides other (λ m k. h m (inr (inr k))))

-- ---- the sides of a point on n that is moved a little off it
abbrev pub sides_beside : Coefficients → Bool → Coordinates → Coefficients → Bool
sides_beside n behind p m = if is_same m n then behind else if is_same m (opposite_of n) then not behind else is_behind m p

not_same : (m n : Coefficients) → m ≢ n → is_same m n ≡ false
not_same m n h = false_by (is_same m n) (λ e. h (same_plane m n e))

first_of : (c d : Bool) (x y z : Bool) → c ≡ true → (if c then x else if d then y else z) ≡ x
first_of c d x y z e = rw (e) refl

second_of : (c d : Bool) (x y z : Bool) → c ≡ false → d ≡ true → (if c then x else if d then y else z) ≡ y
second_of c d x y z e f = rw (e, f) refl

third_of : (c d : Bool) (x y z : Bool) → c ≡ false → d ≡ false → (if c then x else if d then y else z) ≡ z
third_of c d x y z e f = rw (e, f) refl

pub beside_itself : (n : Coefficients) (b : Bool) (p : Coordinates) → sides_beside n b p n ≡ b
beside_itself n b p = first_of _ _ b (not b) (is_behind n p) (same_itself n)

pub beside_opposite : (n : Coefficients) (b : Bool) (p : Coordinates) → n ≢ opposite_of n → sides_beside n b p (opposite_of n) ≡ not b
beside_opposite n b p h = second_of _ _ b (not b) (is_behind (opposite_of n) p) (not_same (opposite_of n) n (λ e. h (sym e))) (same_itself (opposite_of n))

pub beside_other : (n : Coefficients) (b : Bool) (p : Coordinates) (m : Coefficients) → m ≢ n → m ≢ opposite_of n → sides_beside n b p m ≡ is_behind m p
beside_other n b p m h k = third_of _ _ b (not b) (is_behind m p) (not_same m n h) (not_same m (opposite_of n) k)

pub just_behind : (n : Coefficients) (p : Coordinates) → n ≢ opposite_of n → AreJustBehind n p (sides_beside n true p)
just_behind n p h = record { itself = beside_itself n true p; opposite = beside_opposite n true p h; others = beside_other n true p }

pub just_ahead : (n : Coefficients) (p : Coordinates) → n ≢ opposite_of n → AreJustAhead n p (sides_beside n false p)
just_ahead n p h = record { itself = beside_itself n false p; opposite = beside_opposite n false p h; others = beside_other n false p }

twice_other : (m n : Coefficients) → m ≢ opposite_of (opposite_of n) → m ≢ n
twice_other m n h e = h (e ∙ sym (opposite_twice n))

-- just behind the opposite is just ahead
pub opposite_behind : (n : Coefficients) (p : Coordinates) → n ≢ opposite_of n → AreJustBehind (opposite_of n) p (sides_beside n false p)
opposite_behind n p h = record {
  itself = beside_opposite n false p h;
  opposite = ap (sides_beside n false p) (opposite_twice n) ∙ beside_itself n false p;
  others = λ m a b. beside_other n false p m (twice_other m n b) a;
}

pub opposite_ahead : (n : Coefficients) (p : Coordinates) → n ≢ opposite_of n → AreJustAhead (opposite_of n) p (sides_beside n true p)
opposite_ahead n p h = record {
  itself = beside_opposite n true p h;
  opposite = ap (sides_beside n true p) (opposite_twice n) ∙ beside_itself n true p;
  others = λ m a b. beside_other n true p m (twice_other m n b) a;
}

-- ---- the sides of all planes, from those of the planes through the line
abbrev pub extend : Coordinates → List Coefficients → List Bool → Coefficients → Bool
extend q [] sides m = is_behind m q
extend q (n ∷ ns) [] m = is_behind m q
extend q (n ∷ ns) (b ∷ sides) m = if is_same m n then b else if is_same m (opposite_of n) then not b else extend q ns sides m

if_by : (c d : Bool) (e r x : Bool) → (c ≡ true → e ≡ x) → (d ≡ true → not e ≡ x) → (c ≡ false → d ≡ false → r ≡ x) → (if c then e else if d then not e else r) ≡ x
if_by true d e r x h k l = h refl
if_by false true e r x h k l = k refl
if_by false false e r x h k l = l refl refl

negative_tests : (x y : ℤ) → y ≡ neg_ℤ x → x ≢ pos 0 → not (int_lt x (pos 0)) ≡ int_lt y (pos 0)
negative_tests x y e h = elim (signs x) [
  | inl k ↦ ap not (below x (pos 0) k) ∙ sym (not_below y (pos 0) (omega (arith, sums)))
  | inr (inl k) ↦ absurd (h k)
  | inr (inr k) ↦ ap not (not_below x (pos 0) (omega (arith, sums))) ∙ sym (below y (pos 0) (omega (arith, sums)))
]

-- a plane that is off the line keeps its side
pub record KeepsSide (n : Coefficients) (q p : Coordinates) (m : Coefficients) : Type 0 where
  pub alike : is_behind m q ≡ is_behind m p
  pub other : m ≢ n
  pub no_opposite : m ≢ opposite_of n

-- a plane through the line that is n, or turns off its half
pub record Turns (v : Direction) (n half m : Coefficients) : Type 0 where
  pub apart : triple_product_of v m half ≢ pos 0
  pub other : m ≢ n
  pub no_opposite : m ≢ opposite_of n

module _ (v : Direction) (number : ℕ) (q : Coordinates) (n half : Coefficients) (proper : n ≢ opposite_of n) (b : Bool) where
  abbrev spot : Coordinates
  spot = near_point number q (direction_beside half v)

  abbrev given : Coefficients → Bool
  given m = if is_same m n then b else int_lt (triple_product_of v m half) (pos 0)

  -- a plane through the line that is n, or turns off its half
  abbrev pub Fits : Coefficients → Type 0
  Fits m = (value m q ≡ pos 0) × ((m ≡ n) ⊎ Turns v n half m)

  chosen : (c : Bool) (x y : Bool) → c ≡ true → (if c then x else y) ≡ x
  chosen c x y e = rw (e) refl

  chosen_other : (c : Bool) (x y : Bool) → c ≡ false → (if c then x else y) ≡ y
  chosen_other c x y e = rw (e) refl

  given_itself : (k : Coefficients) → Fits k → given k ≡ sides_beside n b spot k
  given_itself k (on, inl e) =
      chosen (is_same k n) b _ (ap (λ (x : Coefficients). is_same x n) e ∙ same_itself n)
      ∙ sym (ap (sides_beside n b spot) e ∙ beside_itself n b spot)
  given_itself k (on, inr t) =
      chosen_other (is_same k n) b _ (not_same k n t.other)
      ∙ ap (λ (x : ℤ). int_lt x (pos 0)) (sym (near_on k number q (direction_beside half v) on ∙ slope_beside k half v))
      ∙ sym (beside_other n b spot k t.other t.no_opposite)

  given_opposite : (k : Coefficients) → Fits k → not (given k) ≡ sides_beside n b spot (opposite_of k)
  given_opposite k (on, inl e) =
      ap not (chosen (is_same k n) b _ (ap (λ (x : Coefficients). is_same x n) e ∙ same_itself n))
      ∙ sym (ap (λ (x : Coefficients). sides_beside n b spot (opposite_of x)) e ∙ beside_opposite n b spot proper)
  given_opposite k (on, inr t) =
      let e = near_on k number q (direction_beside half v) on ∙ slope_beside k half v in
      ap not (chosen_other (is_same k n) b _ (not_same k n t.other))
      ∙ negative_tests (triple_product_of v k half) (value (opposite_of k) spot) (value-opposite k spot ∙ ap neg_ℤ e) t.apart
      ∙ sym (beside_other n b spot (opposite_of k) (λ f. t.no_opposite (sym (opposite_twice k) ∙ ap opposite_of f)) (λ f. t.other (sym (opposite_twice k) ∙ ap opposite_of f ∙ opposite_twice n)))

  left_over : (m k : Coefficients) (ks : List Coefficients) → is_same m k ≡ false → is_same m (opposite_of k) ≡ false → AmongEither m (k ∷ ks) → AmongEither m ks
  left_over m k ks e f (inl (inl g)) = absurd (true≢false (sym (ap (λ (x : Coefficients). is_same x k) g ∙ same_itself k) ∙ e))
  left_over m k ks e f (inl (inr g)) = absurd (true≢false (sym (ap (λ (x : Coefficients). is_same x (opposite_of k)) g ∙ same_itself (opposite_of k)) ∙ f))
  left_over m k ks e f (inr g) = g

  still_found : (m k : Coefficients) (ks : List Coefficients) → is_same m k ≡ false → is_same m (opposite_of k) ≡ false → KeepsSide n q spot m ⊎ AmongEither m (k ∷ ks) → KeepsSide n q spot m ⊎ AmongEither m ks
  still_found m k ks e f (inl g) = inl g
  still_found m k ks e f (inr g) = inr (left_over m k ks e f g)

  pub extended : (ks : List Coefficients) → Each Fits ks → (m : Coefficients) → KeepsSide n q spot m ⊎ AmongEither m ks → extend q ks (sides_at v ks n half b) m ≡ sides_beside n b spot m
  extended [] e m (inl h) = h.alike ∙ sym (beside_other n b spot m h.other h.no_opposite)
  extended [] e m (inr h) = absurd h
  extended (k ∷ ks) e m h =
      if_by (is_same m k) (is_same m (opposite_of k)) (given k) (extend q ks (sides_at v ks n half b) m) (sides_beside n b spot m)
      (λ c. given_itself k e.0 ∙ ap (sides_beside n b spot) (sym (same_plane m k c)))
      (λ c. given_opposite k e.0 ∙ ap (sides_beside n b spot) (sym (same_plane m (opposite_of k) c)))
      (λ c d. extended ks e.1 m (still_found m k ks c d h))
