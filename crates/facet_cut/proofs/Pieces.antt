-- The pieces of a polygon in a solid.
use Rattle.std.proofs.Common.{◌≡◌, inl, inr, ℕ, suc, ◌<◌, Bool, true, false, List, [], ◌∷◌, ◌++◌, refl, sym, ◌∙◌, subst, arith, ℤ, pos, negsuc, ◌+ℤ◌, ◌*ℤ◌, ◌<ℤ◌, ◌≤ℤ◌, flat_map}
use Rattle.std.specs.List.{All}
use Rattle.std.proofs.lemmas.List.Elements.{All-nil, All-cons, All-head, All-tail, All-append, All-weaker}
use Rattle.std.proofs.lemmas.Grind.{flat_map-append}
use Rattle.std.proofs.Math.IntN.{*ℤ-zero}
use Rattle.plane_predicate.specs.Space.{Coefficients, Coordinates, value, opposite_of}
use Rattle.plane_predicate.proofs.lemmas.IntegerRing.{sums}
use Rattle.plane_predicate.proofs.lemmas.Identities.{combine, value_combine}
use Rattle.plane_predicate.proofs.lemmas.Signs.{signs, neg_neg, zero_cancel}
use Rattle.plane_polygon.specs.Polygons.{Outline, edge_count, edge_plane, corner, Covers, IsPolygon, IsStrictlyWithin}
use Rattle.plane_polygon.specs.declared.classes.Class.{Class}
use Rattle.plane_polygon.specs.declared.classes.Class.TheVariants.{Behind, Ahead, On, Across}
use Rattle.plane_polygon.specs.Parts.{class_of, part_behind, part_ahead}
use Rattle.plane_polygon.proofs.lemmas.Hull.{hull, corner_on, after_below, after_other, after_twice}
use Rattle.plane_polygon.proofs.lemmas.Parts.{behind_polygon, ahead_polygon, behind_points, ahead_points}
use Rattle.bsp_tree.specs.Trees.{BspTree, inside, outside, node, walk}
use Rattle.bsp_tree.specs.Cells.{IsInCell, IsPolygonOfCell, IsOffPlanesOf}
use Rattle.bsp_tree.proofs.lemmas.Convexity.{in_closed}
use Rattle.bsp_tree.proofs.lemmas.Openness.{often, in_near}
use Rattle.bsp_tree.proofs.lemmas.Opposites.{opposite_above, opposite_below}
use Rattle.bsp_tree.proofs.lemmas.Halves.{lying, low_half, high_half}
use Rattle.bsp_tree.proofs.lemmas.Sides.{LiesBehind, lies_behind, lies_ahead, lies_on, none_ahead}
use Rattle.bsp_tree.proofs.lemmas.Walks.{walk_behind, walk_ahead}
use Rattle.facet_cut.specs.Facets.{Piece, pieces_on_sides, pieces}
use Rattle.facet_cut.specs.Sides.{HasNone, HasOneWhere}
use Rattle.facet_cut.proofs.Counts.{none_append, where_left, where_right}
use Rattle.plane_predicate.specs.Indices.{index_after}

pub not_both : (x : ℤ) → pos 0 <ℤ x → x ≤ℤ pos 0 → ⊥
not_both x h k = omega (arith, sums)

pub not_two : (x : ℤ) → x <ℤ pos 0 → pos 0 ≤ℤ x → ⊥
not_two x h k = omega (arith, sums)

lt_most : (x : ℤ) → x <ℤ pos 0 → x ≤ℤ pos 0
lt_most x h = omega (arith, sums)

zero_most : (x : ℤ) → x ≡ pos 0 → x ≤ℤ pos 0
zero_most x h = omega (arith, sums)

-- ---- a point of a cell on a polygon of the cell is strictly within it
both_zero : (u v x y : ℤ) → x ≡ pos 0 → y ≡ pos 0 → u *ℤ x +ℤ v *ℤ y ≡ pos 0
both_zero u v x y hx hy = rw (hx, hy, *ℤ-zero u, *ℤ-zero v) refl

second_above : (u v x y : ℤ) → x ≡ pos 0 → pos 0 <ℤ (v *ℤ y) → pos 0 <ℤ (u *ℤ x +ℤ v *ℤ y)
second_above u v x y hx h =
    subst (λ (z : ℤ). pos 0 <ℤ (u *ℤ z +ℤ v *ℤ y)) (sym hx) (omega (arith, sums, *ℤ-zero u))

-- were it on an edge, then from it away from a corner behind the edge there would be points of the polygon
-- ahead of it
edge_behind : (cell : List Coefficients) (s : Outline) (p : Coordinates) → IsPolygonOfCell cell s → IsInCell cell p →
    value s.plane p ≡ pos 0 → (j : ℕ) → j < edge_count s → value (edge_plane s j) p <ℤ pos 0
edge_behind cell s p h hp on j l =
    let k = edge_count s in
    let a = index_after k j in
    let e = edge_plane s j in
    let u = corner s a in
    let b : value e u <ℤ pos 0 =
    h.polygon.behind a j (after_below k j l) l (λ w. after_other k j h.polygon.three l (sym w))
    (λ w. after_twice k j h.polygon.three l (sym w)) in
    elim (signs (value e p)) [
      | inl x ↦ x
      | inr (inl x) ↦ absurd (
          let t = often cell (negsuc 0) u in
          let q = combine (pos (suc t)) p (negsuc 0) u in
          let near = in_near cell t p (negsuc 0) u (omega arith) hp in
          let on_s : value s.plane q ≡ pos 0 =
          value_combine s.plane (pos (suc t)) p (negsuc 0) u ∙ both_zero (pos (suc t)) (negsuc 0)
          (value s.plane p) (value s.plane u) on (corner_on s a) in
          let ahead : pos 0 <ℤ value e q =
          subst (λ (v : ℤ). pos 0 <ℤ v) (sym (value_combine e (pos (suc t)) p (negsuc 0) u))
          (second_above (pos (suc t)) (negsuc 0) (value e p) (value e u) x
          (neg_neg (negsuc 0) (value e u) (omega (arith, sums)) b)) in
          not_both (value e q) ahead (((h.covers q).1 (in_closed cell q near, on_s)).within j l))
      | inr (inr x) ↦ absurd (not_both (value e p) x (((h.covers p).1 (in_closed cell p hp, on)).within j l))
    ]

pub within_cell : (cell : List Coefficients) (s : Outline) (p : Coordinates) → IsPolygonOfCell cell s →
    IsInCell cell p → value s.plane p ≡ pos 0 → IsStrictlyWithin s p
within_cell cell s p h hp on = record { on = on; behind = λ j l. edge_behind cell s p h hp on j l }

-- what is strictly within a polygon is a point of it
pub within_covered : (s : Outline) (p : Coordinates) → pos 0 <ℤ p.w → IsStrictlyWithin s p → Covers s p
within_covered s p w h = record
    { weight = w; on = h.on; within = λ j l. lt_most (value (edge_plane s j) p) (h.behind j l) }

-- ---- pieces are parts of the polygon
pub record IsPartOf (s r : Outline) : Type 0 where
  pub polygon : IsPolygon r
  pub plane : r.plane ≡ s.plane
  pub covers : (p : Coordinates) → Covers r p → Covers s p

pub part_itself : (s : Outline) → IsPolygon s → IsPartOf s s
part_itself s h = record { polygon = h; plane = refl; covers = λ p c. c }

low_part : (s r : Outline) (m : Coefficients) → IsPartOf s r → class_of r m ≡ Across →
    IsPartOf s (part_behind r m)
low_part s r m h e = record {
  polygon = behind_polygon r m h.polygon e;
  plane = h.plane;
  covers = λ p c. h.covers p ((behind_points r m h.polygon e p).0 c).0;
}

high_part : (s r : Outline) (m : Coefficients) → IsPartOf s r → class_of r m ≡ Across →
    IsPartOf s (part_ahead r m)
high_part s r m h e = record {
  polygon = ahead_polygon r m h.polygon e;
  plane = h.plane;
  covers = λ p c. h.covers p ((ahead_points r m h.polygon e p).0 c).0;
}

all_on_sides : (P : Piece → Type 0) (c : Class) (low high low_part high_part : List Piece) → All P low →
    All P high →
    (c ≡ Across → All P low_part) → (c ≡ Across → All P high_part) →
    All P (pieces_on_sides c low high low_part high_part)
all_on_sides P Behind low high low_part high_part hl hh kl kh = hl
all_on_sides P On low high low_part high_part hl hh kl kh = hl
all_on_sides P Ahead low high low_part high_part hl hh kl kh = hh
all_on_sides P Across low high low_part high_part hl hh kl kh =
    All-append P low_part high_part (kl refl) (kh refl)

pub pieces_parts : (t : BspTree) (s r : Outline) → IsPartOf s r →
    All (λ (q : Piece). IsPartOf s q.part) (pieces t r)
pieces_parts inside s r h =
    All-cons (λ (q : Piece). IsPartOf s q.part) (record { part = r; is_inside = true }) [] h
    (All-nil (λ (q : Piece). IsPartOf s q.part))
pieces_parts outside s r h =
    All-cons (λ (q : Piece). IsPartOf s q.part) (record { part = r; is_inside = false }) [] h
    (All-nil (λ (q : Piece). IsPartOf s q.part))
pieces_parts (node t b a) s r h =
    let m = t.plane in
    all_on_sides (λ (q : Piece). IsPartOf s q.part) (class_of r m) (pieces b r) (pieces a r)
    (pieces b (part_behind r m)) (pieces a (part_ahead r m))
    (pieces_parts b s r h) (pieces_parts a s r h)
    (λ e. pieces_parts b s (part_behind r m) (low_part s r m h e))
    (λ e. pieces_parts a s (part_ahead r m) (high_part s r m h e))

-- ---- what is made of the pieces: nothing has P where no piece gives something that has it
none_flat_map : {A B : Type 0} (P : B → Type 0) (f : A → List B) (xs : List A) →
    All (λ (x : A). HasNone P (f x)) xs → HasNone P (flat_map f xs)
none_flat_map P f [] h = tt
none_flat_map {A} P f (x ∷ xs) h =
    none_append P (f x) (flat_map f xs) (All-head (λ (y : A). HasNone P (f y)) x xs h)
    (none_flat_map P f xs (All-tail (λ (y : A). HasNone P (f y)) x xs h))

-- a polygon that doesn't have the point gives none, where pieces without the point give none
pub none_pieces : (t : BspTree) (P : Outline → Type 0) (f : Piece → List Outline) (p : Coordinates)
    (s : Outline) → IsPolygon s → (Covers s p → ⊥) →
    ((q : Piece) → IsPolygon q.part → (Covers q.part p → ⊥) → HasNone P (f q)) →
    HasNone P (flat_map f (pieces t s))
none_pieces t P f p s h missed k =
    none_flat_map P f (pieces t s)
    (All-weaker (λ (q : Piece). IsPartOf s q.part) (λ (q : Piece). HasNone P (f q))
    (λ q o. k q o.polygon (λ c. missed (o.covers p c))) (pieces t s)
    (pieces_parts t s s (part_itself s h)))

-- ---- and one has it where the one piece that has the point gives one
-- the piece that has a point of the cell: a polygon of a cell with the point, in the leaf that the walk
-- reaches
pub record IsAt (t : BspTree) (s : Outline) (p : Coordinates) (q : Piece) : Type 0 where
  pub cell : List Coefficients
  pub across : IsPolygonOfCell cell q.part
  pub point_in : IsInCell cell p
  pub plane : q.part.plane ≡ s.plane
  pub leaf : q.is_inside ≡ walk t p

three_zero : (u v t x y z : ℤ) → x ≡ pos 0 → y ≡ pos 0 → z ≡ pos 0 → u *ℤ x +ℤ v *ℤ y +ℤ t *ℤ z ≡ pos 0
three_zero u v t x y z hx hy hz = rw (hx, hy, hz, *ℤ-zero u, *ℤ-zero v, *ℤ-zero t) refl

zero_least : (x : ℤ) → x ≡ pos 0 → pos 0 ≤ℤ x
zero_least x h = omega (arith, sums)

-- a polygon's points are on a plane that it lies on
on_plane : (cell : List Coefficients) (s : Outline) (p : Coordinates) (m : Coefficients) → IsPolygonOfCell cell s →
    IsInCell cell p → value s.plane p ≡ pos 0 → class_of s m ≡ On → value m p ≡ pos 0
on_plane cell s p m h hp on e =
    let o = hull s h.polygon p ((h.covers p).1 (in_closed cell p hp, on)) in
    let z : (i : ℕ) → i < edge_count s → value m (corner s i) ≡ pos 0 = λ i l. lies_on s m e i l in
    zero_cancel o.2.k (value m p) o.2.whole
    (o.2.sum m ∙ three_zero o.2.u o.2.v o.2.t (value m (corner s 0)) (value m (corner s o.0))
    (value m (corner s (suc o.0))) (z 0 (omega (arith, o.1))) (z o.0 (omega (arith, o.1)))
    (z (suc o.0) o.1))

-- nothing of a list of two, where each has none
none_parts : (P : Outline → Type 0) (f : Piece → List Outline) (xs ys : List Piece) (c : Bool) →
    HasOneWhere c P (flat_map f xs) → HasNone P (flat_map f ys) → HasOneWhere c P (flat_map f (xs ++ ys))
none_parts P f xs ys c h k =
    subst (HasOneWhere c P) (sym (flat_map-append f xs ys))
    (where_left c P (flat_map f xs) (flat_map f ys) h k)

parts_none : (P : Outline → Type 0) (f : Piece → List Outline) (xs ys : List Piece) (c : Bool) →
    HasNone P (flat_map f xs) → HasOneWhere c P (flat_map f ys) → HasOneWhere c P (flat_map f (xs ++ ys))
parts_none P f xs ys c h k =
    subst (HasOneWhere c P) (sym (flat_map-append f xs ys))
    (where_right c P (flat_map f xs) (flat_map f ys) h k)

-- a point strictly behind the node's plane has its piece on that side
one_behind : (c : Bool) (P : Outline → Type 0) (f : Piece → List Outline) (cell : List Coefficients)
    (s : Outline) (p : Coordinates) (m : Coefficients) (x : Class)
    (low high low_part high_part : List Piece) →
    class_of s m ≡ x → IsPolygonOfCell cell s → IsInCell cell p → value s.plane p ≡ pos 0 → value m p <ℤ pos 0 →
    (LiesBehind s m → HasOneWhere c P (flat_map f low)) →
    (x ≡ Across → HasOneWhere c P (flat_map f low_part)) →
    (x ≡ Across → HasNone P (flat_map f high_part)) →
    HasOneWhere c P (flat_map f (pieces_on_sides x low high low_part high_part))
one_behind c P f cell s p m Behind low high low_part high_part e h hp on b k kp kn = k (lies_behind s m e)
one_behind c P f cell s p m Across low high low_part high_part e h hp on b k kp kn =
    none_parts P f low_part high_part c (kp refl) (kn refl)
one_behind c P f cell s p m Ahead low high low_part high_part e h hp on b k kp kn =
    absurd (not_both (value (opposite_of m) p) (opposite_above m p b)
    (none_ahead cell s (opposite_of m) h (lies_ahead s m e) p (in_closed cell p hp) on))
one_behind c P f cell s p m On low high low_part high_part e h hp on b k kp kn =
    absurd (not_two (value m p) b (zero_least (value m p) (on_plane cell s p m h hp on e)))

-- and one strictly ahead of it on the other
one_ahead : (c : Bool) (P : Outline → Type 0) (f : Piece → List Outline) (cell : List Coefficients)
    (s : Outline) (p : Coordinates) (m : Coefficients) (x : Class)
    (low high low_part high_part : List Piece) →
    class_of s m ≡ x → IsPolygonOfCell cell s → IsInCell cell p → value s.plane p ≡ pos 0 → pos 0 <ℤ value m p →
    (LiesBehind s (opposite_of m) → HasOneWhere c P (flat_map f high)) →
    (x ≡ Across → HasNone P (flat_map f low_part)) →
    (x ≡ Across → HasOneWhere c P (flat_map f high_part)) →
    HasOneWhere c P (flat_map f (pieces_on_sides x low high low_part high_part))
one_ahead c P f cell s p m Ahead low high low_part high_part e h hp on b k kn kp = k (lies_ahead s m e)
one_ahead c P f cell s p m Across low high low_part high_part e h hp on b k kn kp =
    parts_none P f low_part high_part c (kn refl) (kp refl)
one_ahead c P f cell s p m Behind low high low_part high_part e h hp on b k kn kp =
    absurd (not_both (value m p) b (none_ahead cell s m h (lies_behind s m e) p (in_closed cell p hp) on))
one_ahead c P f cell s p m On low high low_part high_part e h hp on b k kn kp =
    absurd (not_both (value m p) b (zero_most (value m p) (on_plane cell s p m h hp on e)))

at_leaf : (t u : BspTree) (s r : Outline) (p : Coordinates) (q : Piece) → r.plane ≡ s.plane →
    walk u p ≡ walk t p → IsAt u r p q → IsAt t s p q
at_leaf t u s r p q e w h =
    record { cell = h.cell; across = h.across; point_in = h.point_in; plane = h.plane ∙ e; leaf = h.leaf ∙ w }

pub one_piece : (t : BspTree) (c : Bool) (P : Outline → Type 0) (f : Piece → List Outline)
    (cell : List Coefficients) (s : Outline) (p : Coordinates) →
    IsPolygonOfCell cell s → IsInCell cell p → value s.plane p ≡ pos 0 → IsOffPlanesOf t p →
    ((q : Piece) → IsAt t s p q → HasOneWhere c P (f q)) →
    ((q : Piece) → IsPolygon q.part → (Covers q.part p → ⊥) → HasNone P (f q)) →
    HasOneWhere c P (flat_map f (pieces t s))
one_piece inside c P f cell s p h hp on off k kn =
    where_left c P (f (record { part = s; is_inside = true })) []
    (k (record { part = s; is_inside = true })
    (record { cell = cell; across = h; point_in = hp; plane = refl; leaf = refl })) tt
one_piece outside c P f cell s p h hp on off k kn =
    where_left c P (f (record { part = s; is_inside = false })) []
    (k (record { part = s; is_inside = false })
    (record { cell = cell; across = h; point_in = hp; plane = refl; leaf = refl })) tt
one_piece (node t b a) c P f cell s p h hp on off k kn =
    let m = t.plane in
    let o = opposite_of t.plane in
    let off_b : IsOffPlanesOf b p = λ n w. off n (inr (inl w)) in
    let off_a : IsOffPlanesOf a p = λ n w. off n (inr (inr w)) in
    elim (signs (value m p)) [
      | inl v ↦ (let i : IsInCell (m ∷ cell) p = record { weight = hp.weight; below = (v, hp.below) } in
          let w = sym (walk_behind t b a p v) in
          one_behind c P f cell s p m (class_of s m) (pieces b s) (pieces a s) (pieces b (part_behind s m))
          (pieces a (part_ahead s m)) refl h hp on v
          (λ l. one_piece b c P f (m ∷ cell) s p (lying cell s m h l) i on off_b
          (λ q g. k q (at_leaf (node t b a) b s s p q refl w g)) kn)
          (λ e. one_piece b c P f (m ∷ cell) (part_behind s m) p (low_half cell s m h e) i on off_b
          (λ q g. k q (at_leaf (node t b a) b s (part_behind s m) p q refl w g)) kn)
          (λ e. none_pieces a P f p (part_ahead s m) (ahead_polygon s m h.polygon e)
          (λ g. not_two (value m p) v ((ahead_points s m h.polygon e p).0 g).1) kn))
      | inr (inl v) ↦ absurd (off m (inl refl) v)
      | inr (inr v) ↦ (let i : IsInCell (o ∷ cell) p =
          record { weight = hp.weight; below = (opposite_below m p v, hp.below) } in
          let w = sym (walk_ahead t b a p v) in
          one_ahead c P f cell s p m (class_of s m) (pieces b s) (pieces a s) (pieces b (part_behind s m))
          (pieces a (part_ahead s m)) refl h hp on v
          (λ l. one_piece a c P f (o ∷ cell) s p (lying cell s o h l) i on off_a
          (λ q g. k q (at_leaf (node t b a) a s s p q refl w g)) kn)
          (λ e. none_pieces b P f p (part_behind s m) (behind_polygon s m h.polygon e)
          (λ g. not_both (value m p) v ((behind_points s m h.polygon e p).0 g).1) kn)
          (λ e. one_piece a c P f (o ∷ cell) (part_ahead s m) p (high_half cell s m h e) i on off_a
          (λ q g. k q (at_leaf (node t b a) a s (part_ahead s m) p q refl w g)) kn))
    ]
