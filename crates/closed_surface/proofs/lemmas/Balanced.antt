-- At a point of a line that is on no plane which doesn't hold the line, the edges of a solid's facets along the line are as
-- many one way as the other.
use Rattle.std.proofs.Common.{◌≡◌, ◌≢◌, ◌⊎◌, inl, inr, ℕ, ◌≤◌, Bool, true, false, not, ◌&&◌, List, [], ◌∷◌, refl, sym, ap, ap₂, ◌∙◌, subst, arith, ℤ, pos, ◌+ℤ◌, ◌-ℤ◌, ◌<ℤ◌, unsigned_abs}
use Rattle.plane_predicate.specs.Space.{Coefficients, Coordinates, value, opposite_of, IsPlane}
use Rattle.plane_predicate.proofs.lemmas.IntegerRing.{sums}
use Rattle.plane_predicate.proofs.lemmas.Signs.{signs}
use Rattle.plane_polygon.specs.Polygons.{Outline, IsPolygon}
use Rattle.plane_polygon.specs.Parts.{is_behind, corners}
use Rattle.bsp_tree.specs.Trees.{BspTree}
use Rattle.bsp_tree.specs.Cells.{world_box, IsInCell, AllBehind, IsNodePlaneOf}
use Rattle.bsp_tree.proofs.lemmas.Opposites.{opposite_twice, opposite_zero, opposite_back}
use Rattle.facet_cut.specs.Facets.{facets_of}
use Rattle.facet_cut.specs.Sides.{walk_by, IsOnOneNodePlane, BoundSolid}
use Rattle.closed_surface.specs.Ways.{Direction, dot_product, slope}
use Rattle.closed_surface.specs.Around.{triple_product_of, sides_at, IsParallelToNone, HaveNoParallels, fall}
use Rattle.closed_surface.specs.Closed.{edges_of, count_of_edges_along, count_of_edges_against}
use Rattle.closed_surface.proofs.Turns.{turn_exchanged, turn_itself, turn_opposite, opposite_turn}
use Rattle.closed_surface.proofs.Sectors.{round}
use Rattle.closed_surface.proofs.lemmas.Numbers.{below, not_below, false_by, at_least, not_zero_below, not_zero_above, negative_apart, negative_zero}
use Rattle.closed_surface.specs.Near.{near_point, direction_beside, is_strictly_within, indicator, BoundsSlopes, IsClear}
use Rattle.closed_surface.proofs.lemmas.Near.{near_on, near_behind, near_ahead, near_weight, zero_near, slope_beside}
use Rattle.closed_surface.proofs.Covers.{balance, is_within_parts}
use Rattle.closed_surface.proofs.lemmas.Each.{Each, each_weaker, each_both, Member, members, each_member, total_same, total_difference, total_exchanged}
use Rattle.closed_surface.proofs.lemmas.Lines.{IsEither, AmongEither, planes_of, each_of, pick, pick_each, pick_among, Holds, pick_apart}
use Rattle.closed_surface.proofs.Walks.{walk_alike, sides_beside, just_behind, just_ahead, opposite_behind, opposite_ahead, extend, KeepsSide, Fits, extended}
use Rattle.closed_surface.proofs.Shares.{covering, counted, number_differs, share, gain, shares_are_gain, shares_are_none}
use Rattle.plane_predicate.specs.Sums.{sum_over}

-- ---- what is known at the line
-- a plane of the solid: where it goes through the point it holds the direction
pub record TreePlane (q : Coordinates) (v : Direction) (m : Coefficients) : Type 0 where
  pub plane : IsPlane m
  pub clear : value m q ≡ pos 0 → slope m v ≡ pos 0
  pub proper : m ≢ opposite_of m

-- the number is at least how much each plane in question grows along u, in size
pub record Enough (t : BspTree) (number : ℕ) (u : Direction) : Type 0 where
  pub tree : Each (λ m. unsigned_abs (slope m u) ≤ number) (planes_of t)
  pub box : Each (λ m. unsigned_abs (slope m u) ≤ number) world_box
  pub facets : Each (λ f. BoundsSlopes number f u) (facets_of t)

-- for the two halves of a plane
pub record EnoughBeside (t : BspTree) (number : ℕ) (v : Direction) (n : Coefficients) : Type 0 where
  pub first : Enough t number (direction_beside n v)
  pub second : Enough t number (direction_beside (opposite_of n) v)

-- a facet of the solid
pub record FacetAt (t : BspTree) (q : Coordinates) (v : Direction) (f : Outline) : Type 0 where
  pub polygon : IsPolygon f
  pub plane : IsNodePlaneOf f.plane t ⊎ IsNodePlaneOf (opposite_of f.plane) t
  pub clear : IsClear f q v

-- ---- planes that are apart, seen from each of them
abbrev SameOrApart : Direction → Coefficients → Coefficients → Type 0
SameOrApart v n m = (m ≡ n) ⊎ (triple_product_of v m n ≢ pos 0)

seen_from_first : (v : Direction) (n : Coefficients) (ms : List Coefficients) → IsParallelToNone v n ms → Each (SameOrApart v n) ms
seen_from_first v n [] a = tt
seen_from_first v n (m ∷ ms) a = (inr (negative_apart _ _ (turn_exchanged v n m) a.0), seen_from_first v n ms a.1)

first_seen : (v : Direction) (n : Coefficients) (ms : List Coefficients) → IsParallelToNone v n ms → Each (λ m. SameOrApart v m n) ms
first_seen v n [] a = tt
first_seen v n (m ∷ ms) a = (inr a.0, first_seen v n ms a.1)

seen : (v : Direction) (ms : List Coefficients) → HaveNoParallels v ms → Each (λ n. Each (SameOrApart v n) ms) ms
seen v [] a = tt
seen v (n ∷ ms) a = (
  (inl refl, seen_from_first v n ms a.0),
  each_weaker (λ m. SameOrApart v m n × Each (SameOrApart v m) ms) (λ m. Each (SameOrApart v m) (n ∷ ms)) (λ m h. (h.0, h.1)) ms (each_both _ _ ms (first_seen v n ms a.0) (seen v ms a.1)),
)

-- ---- a point near by in the cell
all_near : (cell : List Coefficients) (number : ℕ) (q : Coordinates) (u : Direction) → Each (λ m. unsigned_abs (slope m u) ≤ number) cell → AllBehind cell q → AllBehind cell (near_point number q u)
all_near [] number q u e h = tt
all_near (m ∷ cell) number q u e h = (near_behind m number q u e.0 h.0, all_near cell number q u e.1 h.1)

pub in_near : (cell : List Coefficients) (number : ℕ) (q : Coordinates) (u : Direction) → Each (λ m. unsigned_abs (slope m u) ≤ number) cell → IsInCell cell q → IsInCell cell (near_point number q u)
in_near cell number q u e h = record { weight = near_weight number q u h.weight; below = all_near cell number q u e h.below }

-- a plane that the point is off has the point near by on the same side
side_near : (m : Coefficients) (number : ℕ) (q : Coordinates) (u : Direction) → unsigned_abs (slope m u) ≤ number → value m q ≢ pos 0 → is_behind m q ≡ is_behind m (near_point number q u)
side_near m number q u e off = elim (signs (value m q)) [
  | inl h ↦ below (value m q) (pos 0) h ∙ sym (below (value m (near_point number q u)) (pos 0) (near_behind m number q u e h))
  | inr (inl h) ↦ absurd (off h)
  | inr (inr h) ↦ not_below (value m q) (pos 0) (at_least _ h) ∙ sym (not_below (value m (near_point number q u)) (pos 0) (at_least _ (near_ahead m number q u e h)))
]

zero_or_not : (x : ℤ) → (x ≡ pos 0) ⊎ (x ≢ pos 0)
zero_or_not x = elim (signs x) [
  | inl h ↦ inr (λ e. not_zero_below x h e)
  | inr (inl h) ↦ inl h
  | inr (inr h) ↦ inr (λ e. not_zero_above x h e)
]

either_opposite : (m n : Coefficients) → IsEither m n → IsEither m (opposite_of n)
either_opposite m n (inl e) = inr (e ∙ sym (opposite_twice n))
either_opposite m n (inr e) = inl e

opposite_either : (m n : Coefficients) → IsEither (opposite_of m) n → IsEither m n
opposite_either m n (inl e) = inr (sym (opposite_twice m) ∙ ap opposite_of e)
opposite_either m n (inr e) = inl (sym (opposite_twice m) ∙ ap opposite_of e ∙ opposite_twice n)

opposite_among : (m : Coefficients) (ns : List Coefficients) → AmongEither (opposite_of m) ns → AmongEither m ns
opposite_among m [] h = absurd h
opposite_among m (n ∷ ns) (inl h) = inl (opposite_either m n h)
opposite_among m (n ∷ ns) (inr h) = inr (opposite_among m ns h)

either_zero : (m n : Coefficients) (p : Coordinates) → IsEither m n → value n p ≡ pos 0 → value m p ≡ pos 0
either_zero m n p (inl e) h = subst (λ (k : Coefficients). value k p ≡ pos 0) (sym e) h
either_zero m n p (inr e) h = subst (λ (k : Coefficients). value k p ≡ pos 0) (sym e) (opposite_zero n p h)

either_back : (m n : Coefficients) (p : Coordinates) → IsEither m n → value m p ≡ pos 0 → value n p ≡ pos 0
either_back m n p (inl e) h = subst (λ (k : Coefficients). value k p ≡ pos 0) e h
either_back m n p (inr e) h = opposite_back n p (subst (λ (k : Coefficients). value k p ≡ pos 0) e h)

module _ (t : BspTree) (bounded : BoundSolid world_box t (facets_of t)) (q : Coordinates) (hq : IsInCell world_box q) (v : Direction) (hv : pos 0 <ℤ dot_product v v) (number : ℕ)
    (planes : Each (TreePlane q v) (planes_of t)) (enough : Each (EnoughBeside t number v) (planes_of t)) (facets : Each (FacetAt t q v) (facets_of t)) where
  abbrev spot : Coefficients → Coordinates
  spot half = near_point number q (direction_beside half v)

  abbrev through : List Coefficients
  through = pick q (planes_of t)

  abbrev Held : Coefficients → Type 0
  Held = Holds q hq.weight v hv

  holds_where : Each (λ m. value m q ≡ pos 0 → Held m) (planes_of t)
  holds_where = each_weaker (TreePlane q v) (λ m. value m q ≡ pos 0 → Held m) (λ m h e. record { plane = h.plane; on = e; along = h.clear e }) (planes_of t) planes

  held : Each Held through
  held = pick_each Held q (planes_of t) holds_where

  proper_where : Each (λ m. value m q ≡ pos 0 → m ≢ opposite_of m) (planes_of t)
  proper_where = each_weaker (TreePlane q v) (λ m. value m q ≡ pos 0 → m ≢ opposite_of m) (λ m h e. h.proper) (planes_of t) planes

  proper : Each (λ m. m ≢ opposite_of m) through
  proper = pick_each (λ m. m ≢ opposite_of m) q (planes_of t) proper_where

  enough_through : Each (EnoughBeside t number v) through
  enough_through = pick_each (EnoughBeside t number v) q (planes_of t) (each_weaker (EnoughBeside t number v) (λ m. value m q ≡ pos 0 → EnoughBeside t number v m) (λ m h e. h) (planes_of t) enough)

  apart : HaveNoParallels v through
  apart = pick_apart q hq.weight v hv (planes_of t) holds_where

  among : (m : Coefficients) → IsNodePlaneOf m t → value m q ≡ pos 0 → AmongEither m through
  among m k e = each_of (λ n. value n q ≡ pos 0 → AmongEither n through) t (pick_among q (planes_of t)) m k e

  -- ---- a half of one of the planes through the line
  abbrev Value : List Bool → ℤ
  Value sides = indicator (walk_by t (extend q through sides))

  module _ (n : Coefficients) (hn : Held n) (proper_n : n ≢ opposite_of n) (all_seen : Each (SameOrApart v n) through) (half : Coefficients) (is_half : IsEither half n) (sizes : Enough t number (direction_beside half v)) where
    off_by : (m : Coefficients) → IsEither half n → triple_product_of v m n ≢ pos 0 → triple_product_of v m half ≢ pos 0
    off_by m (inl e) h = subst (λ (x : Coefficients). triple_product_of v m x ≢ pos 0) (sym e) h
    off_by m (inr e) h = subst (λ (x : Coefficients). triple_product_of v m x ≢ pos 0) (sym e) (negative_apart _ _ (turn_opposite v m n) h)

    off_half : (m : Coefficients) → triple_product_of v m n ≢ pos 0 → triple_product_of v m half ≢ pos 0
    off_half m h = off_by m is_half h

    on_by : IsEither half n → triple_product_of v n half ≡ pos 0
    on_by (inl e) = ap (triple_product_of v n) e ∙ turn_itself v n
    on_by (inr e) = ap (triple_product_of v n) e ∙ negative_zero _ _ (turn_opposite v n n) (turn_itself v n)

    at_spot : (m : Coefficients) → value m q ≡ pos 0 → value m (spot half) ≡ triple_product_of v m half
    at_spot m e = near_on m number q (direction_beside half v) e ∙ slope_beside m half v

    on_plane : value n (spot half) ≡ pos 0
    on_plane = at_spot n hn.on ∙ on_by is_half

    found : (k m : Coefficients) → SameOrApart v n k → Held k → IsEither m k → value m (spot half) ≡ pos 0 → IsEither m n
    found k m (inl same) hk e z = subst (λ (x : Coefficients). IsEither m x) same e
    found k m (inr off) hk e z = absurd (off_half k off (sym (at_spot k hk.on) ∙ either_back m k (spot half) e z))

    find : (ms : List Coefficients) → Each (SameOrApart v n) ms → Each Held ms → (m : Coefficients) → AmongEither m ms → value m (spot half) ≡ pos 0 → IsEither m n
    find [] s h m k z = absurd k
    find (k ∷ ms) s h m (inl e) z = found k m s.0 h.0 e z
    find (k ∷ ms) s h m (inr e) z = find ms s.1 h.1 m e z

    alone : (m : Coefficients) → IsNodePlaneOf m t → value m (spot half) ≡ pos 0 → IsEither m n
    alone m k z =
        let on_q = zero_near m number q (direction_beside half v) (each_of (λ x. unsigned_abs (slope x (direction_beside half v)) ≤ number) t sizes.tree m k) z in
        find through all_seen held m (among m k on_q) z

    one_plane : IsOnOneNodePlane world_box t n (spot half)
    one_plane = record { point_in = in_near world_box number q (direction_beside half v) sizes.box hq; on = on_plane; alone = alone }

    one_opposite : IsOnOneNodePlane world_box t (opposite_of n) (spot half)
    one_opposite = record {
      point_in = in_near world_box number q (direction_beside half v) sizes.box hq;
      on = opposite_zero n (spot half) on_plane;
      alone = λ m k z. either_opposite m n (alone m k z);
    }

    -- ---- the walks there
    fit : (b : Bool) (m : Coefficients) → SameOrApart v n m → Held m → Fits v number q n half proper_n b m
    fit b m (inl same) hm = (hm.on, inl same)
    fit b m (inr off) hm = (
      hm.on,
      inr (record {
        apart = off_half m off;
        other = λ e. off (ap (λ (x : Coefficients). triple_product_of v x n) e ∙ turn_itself v n);
        no_opposite = λ e. off (ap (λ (x : Coefficients). triple_product_of v x n) e ∙ negative_zero _ _ (opposite_turn v n n) (turn_itself v n));
      }),
    )

    fits : (b : Bool) (ms : List Coefficients) → Each (SameOrApart v n) ms → Each Held ms → Each (Fits v number q n half proper_n b) ms
    fits b [] s h = tt
    fits b (m ∷ ms) s h = (fit b m s.0 h.0, fits b ms s.1 h.1)

    keeps : (m : Coefficients) → IsNodePlaneOf m t → KeepsSide n q (spot half) m ⊎ AmongEither m through
    keeps m k = elim (zero_or_not (value m q)) [
      | inl e ↦ inr (among m k e)
      | inr off ↦ inl (record {
        alike = side_near m number q (direction_beside half v) (each_of (λ x. unsigned_abs (slope x (direction_beside half v)) ≤ number) t sizes.tree m k) off;
        other = λ e. off (subst (λ (x : Coefficients). value x q ≡ pos 0) (sym e) hn.on);
        no_opposite = λ e. off (subst (λ (x : Coefficients). value x q ≡ pos 0) (sym e) (opposite_zero n q hn.on));
      })
    ]

    walks : (b : Bool) → indicator (walk_by t (sides_beside n b (spot half))) ≡ Value (sides_at v through n half b)
    walks b =
        sym (ap indicator (walk_alike t (extend q through (sides_at v through n half b)) (sides_beside n b (spot half))
        (λ m k. extended v number q n half proper_n b through (fits b through all_seen held) m (keeps m k))))

    abbrev low : Bool
    low = walk_by t (sides_beside n true (spot half))

    abbrev high : Bool
    high = walk_by t (sides_beside n false (spot half))

    first_count : sum_over (covering n (spot half)) (facets_of t) ≡ indicator (low && not high)
    first_count =
        counted n (spot half) (facets_of t) (low && not high)
        (bounded n (spot half) one_plane (sides_beside n true (spot half)) (sides_beside n false (spot half)) (just_behind n (spot half) proper_n) (just_ahead n (spot half) proper_n))

    second_count : sum_over (covering (opposite_of n) (spot half)) (facets_of t) ≡ indicator (high && not low)
    second_count =
        counted (opposite_of n) (spot half) (facets_of t) (high && not low)
        (bounded (opposite_of n) (spot half) one_opposite (sides_beside n false (spot half)) (sides_beside n true (spot half)) (opposite_behind n (spot half) proper_n) (opposite_ahead n (spot half) proper_n))

    pub difference : sum_over (covering n (spot half)) (facets_of t) -ℤ sum_over (covering (opposite_of n) (spot half)) (facets_of t) ≡ Value (sides_at v through n half true) -ℤ Value (sides_at v through n half false)
    difference =
        ap₂ (λ (x y : ℤ). x -ℤ y) first_count second_count ∙ number_differs low high ∙ ap₂ (λ (x y : ℤ). x -ℤ y) (walks true) (walks false)

  -- ---- all facets at a plane through the line
  two_falls : (x y a b c d : ℤ) → a -ℤ b ≡ x -ℤ y → (x' y' : ℤ) → c -ℤ d ≡ x' -ℤ y' → (a -ℤ b) -ℤ (c -ℤ d) ≡ (x -ℤ y) +ℤ (y' -ℤ x')
  two_falls x y a b c d h x' y' k = omega (arith, sums)

  abbrev share_of : Coefficients → Outline → ℤ
  share_of n f = share v spot f n

  record AtLine (n : Coefficients) : Type 0 where
    held_n : Held n
    proper_n : n ≢ opposite_of n
    seen_n : Each (SameOrApart v n) through
    sizes_n : EnoughBeside t number v n

  at_line : (ms : List Coefficients) → Each Held ms → Each (λ m. m ≢ opposite_of m) ms → Each (λ n. Each (SameOrApart v n) through) ms → Each (EnoughBeside t number v) ms → Each AtLine ms
  at_line [] a b c e = tt
  at_line (m ∷ ms) a b c e = (record { held_n = a.0; proper_n = b.0; seen_n = c.0; sizes_n = e.0 }, at_line ms a.1 b.1 c.1 e.1)

  shares_fall : (n : Coefficients) → AtLine n → sum_over (share_of n) (facets_of t) ≡ fall v through Value n
  shares_fall n h =
      total_difference (λ f. covering n (spot n) f -ℤ covering (opposite_of n) (spot n) f) (λ f. covering n (spot (opposite_of n)) f -ℤ covering (opposite_of n) (spot (opposite_of n)) f) (facets_of t)
      ∙ ap₂ (λ (x y : ℤ). x -ℤ y)
      (total_difference (covering n (spot n)) (covering (opposite_of n) (spot n)) (facets_of t))
      (total_difference (covering n (spot (opposite_of n))) (covering (opposite_of n) (spot (opposite_of n))) (facets_of t))
      ∙ two_falls (Value (sides_at v through n n true)) (Value (sides_at v through n n false))
      (sum_over (covering n (spot n)) (facets_of t)) (sum_over (covering (opposite_of n) (spot n)) (facets_of t))
      (sum_over (covering n (spot (opposite_of n))) (facets_of t)) (sum_over (covering (opposite_of n) (spot (opposite_of n))) (facets_of t))
      (difference n h.held_n h.proper_n h.seen_n n (inl refl) h.sizes_n.first)
      (Value (sides_at v through n (opposite_of n) true)) (Value (sides_at v through n (opposite_of n) false)) (difference n h.held_n h.proper_n h.seen_n (opposite_of n) (inr refl) h.sizes_n.second)

  -- ---- each facet
  sizes_of : (f : Outline) → FacetAt t q v f → (x : IsNodePlaneOf f.plane t ⊎ IsNodePlaneOf (opposite_of f.plane) t) → EnoughBeside t number v f.plane
  sizes_of f h (inl k) = each_of (EnoughBeside t number v) t enough f.plane k
  sizes_of f h (inr k) =
      let e : EnoughBeside t number v (opposite_of f.plane) = each_of (EnoughBeside t number v) t enough (opposite_of f.plane) k in
      record { first = subst (λ (x : Coefficients). Enough t number (direction_beside x v)) (opposite_twice f.plane) e.second; second = e.first }

  plane_among : (f : Outline) → (IsNodePlaneOf f.plane t ⊎ IsNodePlaneOf (opposite_of f.plane) t) → value f.plane q ≡ pos 0 → AmongEither f.plane through
  plane_among f (inl k) e = among f.plane k e
  plane_among f (inr k) e = opposite_among f.plane through (among (opposite_of f.plane) k (opposite_zero f.plane q e))

  no_either : (f : Outline) → value f.plane q ≢ pos 0 → (ms : List Coefficients) → Each Held ms → Each (λ n. IsEither f.plane n → ⊥) ms
  no_either f off [] h = tt
  no_either f off (n ∷ ms) h = ((λ e. off (either_zero f.plane n q e h.0.on)), no_either f off ms h.1)

  not_within : (f : Outline) (u : Direction) → value f.plane q ≢ pos 0 → BoundsSlopes number f u → indicator (is_strictly_within f (near_point number q u)) ≡ pos 0
  not_within f u off often = ap indicator (false_by _ (λ e. off (zero_near f.plane number q u often.plane (is_within_parts f (near_point number q u) e).on)))

  gain_by : (f : Outline) → Member f (facets_of t) → FacetAt t q v f → EnoughBeside t number v f.plane → (value f.plane q ≡ pos 0) ⊎ (value f.plane q ≢ pos 0) → sum_over (share v spot f) through ≡ gain v spot f
  gain_by f m h e (inl on) = shares_are_gain v spot f through apart proper (plane_among f h.plane on)
  gain_by f m h e (inr off) =
      shares_are_none v spot f through (no_either f off through held)
      (ap₂ (λ (x y : ℤ). x -ℤ y)
      (not_within f (direction_beside f.plane v) off (each_member (λ s. BoundsSlopes number s (direction_beside f.plane v)) (facets_of t) e.first.facets f m))
      (not_within f (direction_beside (opposite_of f.plane) v) off (each_member (λ s. BoundsSlopes number s (direction_beside (opposite_of f.plane) v)) (facets_of t) e.second.facets f m)))

  facet_shares : (f : Outline) → Member f (facets_of t) × FacetAt t q v f → pos (count_of_edges_along (edges_of (corners f)) q v) -ℤ pos (count_of_edges_against (edges_of (corners f)) q v) ≡ sum_over (share v spot f) through
  facet_shares f (m, h) =
      let e = sizes_of f h h.plane in
      balance f h.polygon number q hq.weight v hv h.clear
      (each_member (λ s. BoundsSlopes number s (direction_beside f.plane v)) (facets_of t) e.first.facets f m)
      (each_member (λ s. BoundsSlopes number s (direction_beside (opposite_of f.plane) v)) (facets_of t) e.second.facets f m)
      ∙ sym (gain_by f m h e (zero_or_not (value f.plane q)))

  pub balanced : sum_over (λ f. pos (count_of_edges_along (edges_of (corners f)) q v) -ℤ pos (count_of_edges_against (edges_of (corners f)) q v)) (facets_of t) ≡ pos 0
  balanced =
      total_same (λ f. Member f (facets_of t) × FacetAt t q v f) _ (λ f. sum_over (share v spot f) through) facet_shares (facets_of t) (each_both (λ f. Member f (facets_of t)) (FacetAt t q v) (facets_of t) (members (facets_of t)) facets)
      ∙ total_exchanged (λ f n. share v spot f n) (facets_of t) through
      ∙ total_same AtLine (λ n. sum_over (share_of n) (facets_of t)) (fall v through Value) shares_fall through (at_line through held proper (seen v through apart) enough_through)
      ∙ round v through apart Value
