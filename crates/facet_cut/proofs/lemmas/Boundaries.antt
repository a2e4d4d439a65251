-- The facets of a solid bound it: a point on one plane of the solid is strictly within one facet that faces
-- a side where the solid is just behind and not just ahead, and in none otherwise.
use Rattle.std.proofs.Common.{◌≡◌, ◌≢◌, ◌⊎◌, inl, inr, ℕ, ◌+◌, ◌<◌, Bool, true, false, not, ◌&&◌, if◌then◌else◌, List, ◌∷◌, ◌++◌, refl, sym, ap, ap₂, ◌∙◌, subst, arith, ℤ, zero, suc, pos, negsuc, neg_ℤ, ◌<ℤ◌, ◌≤ℤ◌, unsigned_abs}
use Rattle.std.proofs.lemmas.List.Elements.{All-weaker}
use Rattle.plane_predicate.specs.Space.{Coefficients, Coordinates, value, opposite_of, IsPlane}
use Rattle.plane_predicate.proofs.lemmas.IntegerRing.{sums}
use Rattle.plane_predicate.proofs.lemmas.Signs.{signs}
use Rattle.plane_polygon.specs.Polygons.{Outline, Covers, IsPolygon, IsStrictlyWithin}
use Rattle.plane_polygon.specs.Parts.{is_behind}
use Rattle.plane_polygon.proofs.lemmas.CornerSides.{less, not_less}
use Rattle.bsp_tree.specs.Trees.{BspTree, inside, outside, node, walk}
use Rattle.bsp_tree.specs.Cells.{IsInCell, IsInClosedCell, IsPolygonOfCell, IsOfCell, IsNodePlaneOf, IsOffPlanesOf}
use Rattle.bsp_tree.proofs.lemmas.Opposites.{opposite_zero, opposite_back, opposite_above, opposite_below, opposite_twice}
use Rattle.facet_cut.specs.Facets.{facets_facing, facets_ahead, facets_between, facets_of}
use Rattle.facet_cut.specs.Sides.{walk_by, AreJustBehind, AreJustAhead, CoversFacing, IsFacetOf, HasNone, HasOneWhere, BoundSolid}
use Rattle.facet_cut.proofs.Reversals.{within_reversed, within_back}
use Rattle.facet_cut.proofs.Counts.{where_left, where_right, none_append}
use Rattle.facet_cut.proofs.Pieces.{not_both, within_cell, within_covered, none_pieces, one_piece}
use Rattle.facet_cut.proofs.lemmas.FacetPolygons.{none_of_all, IsFacetOn, between_on, all_facets}

below_not_zero : (x : ℤ) → x <ℤ pos 0 → x ≡ pos 0 → ⊥
below_not_zero x h e = omega (arith, sums)

above_not_zero : (x : ℤ) → pos 0 <ℤ x → x ≡ pos 0 → ⊥
above_not_zero x h e = omega (arith, sums)

lt_least : (x : ℤ) → pos 0 <ℤ x → pos 0 ≤ℤ x
lt_least x h = omega (arith, sums)

-- ---- a plane is not its opposite
own_negative : (x : ℤ) → x ≡ neg_ℤ x → unsigned_abs x ≡ 0
own_negative (pos zero) e = refl
own_negative (pos (suc n)) e = absurd (omega (arith, sums))
own_negative (negsuc n) e = absurd (omega (arith, sums))

no_direction : (a b c : ℕ) → a ≡ 0 → b ≡ 0 → c ≡ 0 → 0 < a + b + c → ⊥
no_direction a b c ha hb hc h = omega arith

not_opposite : (m : Coefficients) → IsPlane m → m ≢ opposite_of m
not_opposite m h e =
    no_direction (unsigned_abs m.a) (unsigned_abs m.b) (unsigned_abs m.c)
    (own_negative m.a (ap (λ (k : Coefficients). k.a) e))
    (own_negative m.b (ap (λ (k : Coefficients). k.b) e))
    (own_negative m.c (ap (λ (k : Coefficients). k.c) e)) h.directed

-- m is n or its opposite
abbrev IsEither : Coefficients → Coefficients → Type 0
IsEither m n = (m ≡ n) ⊎ (m ≡ opposite_of n)

to_either : (m n : Coefficients) (p : Coordinates) → IsEither m n → value m p ≡ pos 0 → value n p ≡ pos 0
to_either m n p (inl e) z = subst (λ (k : Coefficients). value k p ≡ pos 0) e z
to_either m n p (inr e) z = opposite_back n p (subst (λ (k : Coefficients). value k p ≡ pos 0) e z)

from_either : (m n : Coefficients) (p : Coordinates) → IsEither m n → value n p ≡ pos 0 → value m p ≡ pos 0
from_either m n p (inl e) z = subst (λ (k : Coefficients). value k p ≡ pos 0) (sym e) z
from_either m n p (inr e) z = subst (λ (k : Coefficients). value k p ≡ pos 0) (sym e) (opposite_zero n p z)

either_apart : (m n : Coefficients) → IsPlane m → IsEither m n → n ≢ opposite_of n
either_apart m n h (inl e) w = not_opposite m h (e ∙ w ∙ ap opposite_of (sym e))
either_apart m n h (inr e) w = not_opposite m h (e ∙ ap opposite_of w ∙ ap opposite_of (sym e))

-- a plane that the point is off is neither
off_itself : (m n : Coefficients) (p : Coordinates) → value n p ≡ pos 0 → (value m p ≡ pos 0 → ⊥) → m ≢ n
off_itself m n p on off e = off (from_either m n p (inl e) on)

off_opposite : (m n : Coefficients) (p : Coordinates) → value n p ≡ pos 0 → (value m p ≡ pos 0 → ⊥) →
    m ≢ opposite_of n
off_opposite m n p on off e = off (from_either m n p (inr e) on)

-- ---- the planes of a solid of a cell have points of the cell
less_planes : (m : Coefficients) (cell : List Coefficients) (p : Coordinates) → IsInCell (m ∷ cell) p →
    IsInCell cell p
less_planes m cell p h = record { weight = h.weight; below = h.below.1 }

plane_meets : (t : BspTree) (cell : List Coefficients) (m : Coefficients) → IsOfCell cell t → IsNodePlaneOf m t →
    (y : Coordinates) × IsInCell cell y × (value m y ≡ pos 0)
plane_meets inside cell m h k = absurd k
plane_meets outside cell m h k = absurd k
plane_meets (node s b a) cell m h (inl e) =
    (h.0.point, h.0.point_in, from_either m s.plane h.0.point (inl e) h.0.point_on)
plane_meets (node s b a) cell m h (inr (inl k)) = let y = plane_meets b (s.plane ∷ cell) m h.1 k in
    (y.0, less_planes s.plane cell y.0 y.1, y.2)
plane_meets (node s b a) cell m h (inr (inr k)) = let y =
    plane_meets a (opposite_of s.plane ∷ cell) m h.2 k in
    (y.0, less_planes (opposite_of s.plane) cell y.0 y.1, y.2)

-- ---- walks
abbrev IsOther : Coefficients → Coordinates → (Coefficients → Bool) → Type 0
IsOther n p sides = (m : Coefficients) → m ≢ n → m ≢ opposite_of n → sides m ≡ is_behind m p

if_same : (c d x y u v : Bool) → c ≡ d → x ≡ u → y ≡ v → (if c then x else y) ≡ (if d then u else v)
if_same c d x y u v e h k =
    ap₂ (λ (a : Bool) (b : Bool). if c then a else b) h k ∙ ap (λ (a : Bool). if a then u else v) e

-- where the point is off all planes, the walk is the point's
walk_off : (t : BspTree) (n : Coefficients) (p : Coordinates) (sides : Coefficients → Bool) →
    value n p ≡ pos 0 → IsOther n p sides → IsOffPlanesOf t p → walk_by t sides ≡ walk t p
walk_off inside n p sides on h off = refl
walk_off outside n p sides on h off = refl
walk_off (node s b a) n p sides on h off =
    let z = off s.plane (inl refl) in
    if_same (sides s.plane) (is_behind s.plane p) (walk_by b sides) (walk_by a sides) (walk b p) (walk a p)
    (h s.plane (off_itself s.plane n p on z) (off_opposite s.plane n p on z))
    (walk_off b n p sides on h (λ m k. off m (inr (inl k))))
    (walk_off a n p sides on h (λ m k. off m (inr (inr k))))

takes_behind : (s : Outline) (b a : BspTree) (sides : Coefficients → Bool) → sides s.plane ≡ true →
    walk_by (node s b a) sides ≡ walk_by b sides
takes_behind s b a sides e = ap (λ (c : Bool). if c then walk_by b sides else walk_by a sides) e

takes_ahead : (s : Outline) (b a : BspTree) (sides : Coefficients → Bool) → sides s.plane ≡ false →
    walk_by (node s b a) sides ≡ walk_by a sides
takes_ahead s b a sides e = ap (λ (c : Bool). if c then walk_by b sides else walk_by a sides) e

-- ---- the facets on the polygon of the plane
none_facing : (n : Coefficients) (p : Coordinates) (i j : Bool) (r : Outline) → pos 0 <ℤ p.w →
    (Covers r p → ⊥) → HasNone (CoversFacing n p) (facets_facing i j r)
none_facing n p true true r w missed = tt
none_facing n p false false r w missed = tt
none_facing n p true false r w missed = (λ c. missed (within_covered r p w c.within), tt)
none_facing n p false true r w missed = (λ c. missed (within_covered r p w (within_back r p c.within)), tt)

none_ahead_of : (n : Coefficients) (p : Coordinates) (i : Bool) (a : BspTree) (r : Outline) → pos 0 <ℤ p.w →
    IsPolygon r → (Covers r p → ⊥) → HasNone (CoversFacing n p) (facets_ahead i a r)
none_ahead_of n p i a r w h missed =
    none_pieces a (CoversFacing n p) (λ q. facets_facing i q.is_inside q.part) p r h missed
    (λ q o k. none_facing n p i q.is_inside q.part w k)

-- the one that faces the polygon's plane, where n is the plane
facing_itself : (n : Coefficients) (p : Coordinates) (i j : Bool) (r : Outline) → n ≢ opposite_of n →
    r.plane ≡ n → IsStrictlyWithin r p → HasOneWhere (i && not j) (CoversFacing n p) (facets_facing i j r)
facing_itself n p true true r d e h = tt
facing_itself n p false false r d e h = tt
facing_itself n p true false r d e h = inl (record { faces = e; within = h }, tt)
facing_itself n p false true r d e h = (λ c. d (sym c.faces ∙ ap opposite_of e), tt)

-- the one that faces its opposite, where n is that
facing_opposite : (n : Coefficients) (p : Coordinates) (i j : Bool) (r : Outline) → n ≢ opposite_of n →
    r.plane ≡ opposite_of n → IsStrictlyWithin r p →
    HasOneWhere (j && not i) (CoversFacing n p) (facets_facing i j r)
facing_opposite n p true true r d e h = tt
facing_opposite n p false false r d e h = tt
facing_opposite n p true false r d e h = (λ c. d (sym c.faces ∙ e), tt)
facing_opposite n p false true r d e h =
    inl (record { faces = ap opposite_of e ∙ opposite_twice n; within = within_reversed r p h }, tt)

-- by what the two leaves give
one_between : (counts : Bool → Bool → Bool) (n : Coefficients) (cell : List Coefficients) (s : Outline)
    (b a : BspTree) (p : Coordinates) →
    IsPolygonOfCell cell s → IsInCell cell p → value s.plane p ≡ pos 0 → IsOffPlanesOf b p → IsOffPlanesOf a p →
    ((i j : Bool) (r : Outline) → r.plane ≡ s.plane → IsStrictlyWithin r p →
    HasOneWhere (counts i j) (CoversFacing n p) (facets_facing i j r)) →
    HasOneWhere (counts (walk b p) (walk a p)) (CoversFacing n p) (facets_between b a s)
one_between counts n cell s b a p h hp on off_b off_a k =
    one_piece b (counts (walk b p) (walk a p)) (CoversFacing n p) (λ q. facets_ahead q.is_inside a q.part)
    cell s p h hp on off_b
    (λ q g. (let on_q : value q.part.plane p ≡ pos 0 = from_either q.part.plane s.plane p (inl g.plane) on in
    subst (λ (i : Bool). HasOneWhere (counts i (walk a p)) (CoversFacing n p)
    (facets_ahead q.is_inside a q.part)) g.leaf
    (one_piece a (counts q.is_inside (walk a p)) (CoversFacing n p)
    (λ r. facets_facing q.is_inside r.is_inside r.part) g.cell q.part p g.across g.point_in on_q off_a
    (λ r f. subst (λ (j : Bool). HasOneWhere (counts q.is_inside j) (CoversFacing n p)
    (facets_facing q.is_inside r.is_inside r.part)) f.leaf
    (k q.is_inside r.is_inside r.part (f.plane ∙ g.plane)
    (within_cell f.cell r.part p f.across f.point_in
    (from_either r.part.plane q.part.plane p (inl f.plane) on_q))))
    (λ r o missed. none_facing n p q.is_inside r.is_inside r.part hp.weight missed))))
    (λ q o missed. none_ahead_of n p q.is_inside a q.part hp.weight o missed)

-- ---- the whole solid
-- no facet of a solid whose planes the point is off has it
none_off : (t : BspTree) (cell : List Coefficients) (n : Coefficients) (p : Coordinates) → IsOfCell cell t →
    IsOffPlanesOf t p → HasNone (CoversFacing n p) (facets_of t)
none_off t cell n p h off =
    none_of_all (CoversFacing n p) (facets_of t)
    (All-weaker (IsFacetOf cell t) (λ (x : Outline). CoversFacing n p x → ⊥)
    (λ x f c. elim f.plane [
      | inl k ↦ off x.plane k c.within.on
      | inr k ↦
          off (opposite_of x.plane) k (opposite_zero x.plane p c.within.on)
    ]) (facets_of t)
    (all_facets t cell h))

-- nor of one of a cell without the point
none_outside : (t : BspTree) (cell : List Coefficients) (n : Coefficients) (p : Coordinates) → IsOfCell cell t →
    pos 0 <ℤ p.w → (IsInClosedCell cell p → ⊥) → HasNone (CoversFacing n p) (facets_of t)
none_outside t cell n p h w missed =
    none_of_all (CoversFacing n p) (facets_of t)
    (All-weaker (IsFacetOf cell t) (λ (x : Outline). CoversFacing n p x → ⊥)
    (λ x f c. missed (f.closed p (within_covered x p w c.within))) (facets_of t) (all_facets t cell h))

-- nor of those on a polygon whose plane the point is off
none_between : (s : Outline) (b a : BspTree) (n : Coefficients) (p : Coordinates) → IsPolygon s →
    (value s.plane p ≡ pos 0 → ⊥) → HasNone (CoversFacing n p) (facets_between b a s)
none_between s b a n p h off =
    none_of_all (CoversFacing n p) (facets_between b a s)
    (All-weaker (IsFacetOn s) (λ (x : Outline). CoversFacing n p x → ⊥)
    (λ x f c. off (to_either x.plane s.plane p f.plane c.within.on)) (facets_between b a s)
    (between_on b a s h))

-- no plane of a solid behind the plane s, or ahead of it, has a point that is on s's plane and alone there
off_part : (s : Outline) (side : Coefficients) (t : BspTree) (cell : List Coefficients) (n : Coefficients)
    (p : Coordinates) → IsOfCell (side ∷ cell) t →
    IsEither side s.plane → IsEither s.plane n → value n p ≡ pos 0 →
    ((m : Coefficients) → IsNodePlaneOf m t → value m p ≡ pos 0 → IsEither m n) → IsOffPlanesOf t p
off_part s side t cell n p h e d on alone m k z =
    let y = plane_meets t (side ∷ cell) m h k in
    below_not_zero (value side y.0) y.1.below.0
    (from_either side s.plane y.0 e (from_either s.plane n y.0 d (to_either m n y.0 (alone m k z) y.2)))

-- at the node on whose plane the point is
at_node : (s : Outline) (b a : BspTree) (cell : List Coefficients) (n : Coefficients) (p : Coordinates)
    (low high : Coefficients → Bool) →
    IsPolygonOfCell cell s → IsInCell cell p → value n p ≡ pos 0 → AreJustBehind n p low → AreJustAhead n p high →
    IsOffPlanesOf b p → IsOffPlanesOf a p → IsEither s.plane n →
    HasOneWhere (walk_by (node s b a) low && not (walk_by (node s b a) high)) (CoversFacing n p)
    (facets_between b a s)
at_node s b a cell n p low high h hp on jb ja off_b off_a (inl e) =
    let el = takes_behind s b a low (ap low e ∙ jb.itself) ∙ walk_off b n p low on jb.others off_b in
    let eh = takes_ahead s b a high (ap high e ∙ ja.itself) ∙ walk_off a n p high on ja.others off_a in
    subst (λ (c : Bool). HasOneWhere c (CoversFacing n p) (facets_between b a s))
    (sym (ap₂ (λ (i j : Bool). i && not j) el eh))
    (one_between (λ i j. i && not j) n cell s b a p h hp (from_either s.plane n p (inl e) on) off_b off_a
    (λ i j r f w. facing_itself n p i j r (either_apart s.plane n h.plane (inl e)) (f ∙ e) w))
at_node s b a cell n p low high h hp on jb ja off_b off_a (inr e) =
    let el = takes_ahead s b a low (ap low e ∙ jb.opposite) ∙ walk_off a n p low on jb.others off_a in
    let eh = takes_behind s b a high (ap high e ∙ ja.opposite) ∙ walk_off b n p high on ja.others off_b in
    subst (λ (c : Bool). HasOneWhere c (CoversFacing n p) (facets_between b a s))
    (sym (ap₂ (λ (i j : Bool). i && not j) el eh))
    (one_between (λ i j. j && not i) n cell s b a p h hp (from_either s.plane n p (inr e) on) off_b off_a
    (λ i j r f w. facing_opposite n p i j r (either_apart s.plane n h.plane (inr e)) (f ∙ e) w))

-- the sides of a node's plane that the point is off
other_side : (s : Outline) (n : Coefficients) (p : Coordinates) (sides : Coefficients → Bool) (c : Bool) →
    value n p ≡ pos 0 → IsOther n p sides → (value s.plane p ≡ pos 0 → ⊥) → is_behind s.plane p ≡ c →
    sides s.plane ≡ c
other_side s n p sides c on h off e =
    h s.plane (off_itself s.plane n p on off) (off_opposite s.plane n p on off) ∙ e

bound : (t : BspTree) (cell : List Coefficients) (n : Coefficients) (p : Coordinates)
    (low high : Coefficients → Bool) →
    IsOfCell cell t → IsInCell cell p → value n p ≡ pos 0 →
    ((m : Coefficients) → IsNodePlaneOf m t → value m p ≡ pos 0 → IsEither m n) → AreJustBehind n p low →
    AreJustAhead n p high →
    HasOneWhere (walk_by t low && not (walk_by t high)) (CoversFacing n p) (facets_of t)
bound inside cell n p low high h hp on alone jb ja = tt
bound outside cell n p low high h hp on alone jb ja = tt
bound (node s b a) cell n p low high h hp on alone jb ja =
    let P = CoversFacing n p in
    let m = s.plane in
    let o = opposite_of s.plane in
    let alone_b : (k : Coefficients) → IsNodePlaneOf k b → value k p ≡ pos 0 → IsEither k n =
    λ k w. alone k (inr (inl w)) in
    let alone_a : (k : Coefficients) → IsNodePlaneOf k a → value k p ≡ pos 0 → IsEither k n =
    λ k w. alone k (inr (inr w)) in
    elim (signs (value m p)) [
      | inl v ↦ (
          let off : value m p ≡ pos 0 → ⊥ = below_not_zero (value m p) v in
          let test = less (value m p) (pos 0) v in
          let el = takes_behind s b a low (other_side s n p low true on jb.others off test) in
          let eh = takes_behind s b a high (other_side s n p high true on ja.others off test) in
          subst (λ (c : Bool). HasOneWhere c P (facets_of (node s b a)))
          (sym (ap₂ (λ (i j : Bool). i && not j) el eh))
          (where_left (walk_by b low && not (walk_by b high)) P (facets_between b a s ++ facets_of b)
          (facets_of a)
          (where_right (walk_by b low && not (walk_by b high)) P (facets_between b a s) (facets_of b)
          (none_between s b a n p h.0.polygon off)
          (bound b (m ∷ cell) n p low high h.1 (record { weight = hp.weight; below = (v, hp.below) }) on
          alone_b jb ja))
          (none_outside a (o ∷ cell) n p h.2 hp.weight
          (λ c. not_both (value o p) (opposite_above m p v) c.below.0))))
      | inr (inl z) ↦ (
          let e = alone m (inl refl) z in
          let off_b = off_part s m b cell n p h.1 (inl refl) e on alone_b in
          let off_a = off_part s o a cell n p h.2 (inr refl) e on alone_a in
          where_left (walk_by (node s b a) low && not (walk_by (node s b a) high)) P
          (facets_between b a s ++ facets_of b) (facets_of a)
          (where_left (walk_by (node s b a) low && not (walk_by (node s b a) high)) P (facets_between b a s)
          (facets_of b)
          (at_node s b a cell n p low high h.0 hp on jb ja off_b off_a e)
          (none_off b (m ∷ cell) n p h.1 off_b))
          (none_off a (o ∷ cell) n p h.2 off_a))
      | inr (inr v) ↦ (
          let off : value m p ≡ pos 0 → ⊥ = above_not_zero (value m p) v in
          let test = not_less (value m p) (pos 0) (lt_least (value m p) v) in
          let el = takes_ahead s b a low (other_side s n p low false on jb.others off test) in
          let eh = takes_ahead s b a high (other_side s n p high false on ja.others off test) in
          subst (λ (c : Bool). HasOneWhere c P (facets_of (node s b a)))
          (sym (ap₂ (λ (i j : Bool). i && not j) el eh))
          (where_right (walk_by a low && not (walk_by a high)) P (facets_between b a s ++ facets_of b)
          (facets_of a)
          (none_append P (facets_between b a s) (facets_of b) (none_between s b a n p h.0.polygon off)
          (none_outside b (m ∷ cell) n p h.1 hp.weight (λ c. not_both (value m p) v c.below.0)))
          (bound a (o ∷ cell) n p low high h.2
          (record { weight = hp.weight; below = (opposite_below m p v, hp.below) }) on alone_a jb ja)))
    ]

pub facets_bound : (cell : List Coefficients) (t : BspTree) → IsOfCell cell t → BoundSolid cell t (facets_of t)
facets_bound cell t h n p o low high jb ja = bound t cell n p low high h o.point_in o.on o.alone jb ja
