-- A tree and its solid, just behind and just ahead of a point on one face plane: a point near by has the same sides.
use Rattle.std.proofs.Common.{◌≡◌, ◌≢◌, inl, inr, ℕ, zero, suc, ◌+◌, ◌≤◌, Bool, true, false, not, ◌&&◌, if◌then◌else◌, List, [], ◌∷◌, get_or, refl, sym, ap, ap₂, ◌∙◌, subst, arith, ℤ, pos, negsuc, ◌+ℤ◌, ◌*ℤ◌, ◌<ℤ◌, unsigned_abs, int_lt}
use Rattle.std.specs.Prelude.{Contains}
use Rattle.std.specs.List.{list_all}
use Rattle.std.proofs.lemmas.Int.{ints}
use Rattle.plane_predicate.specs.Space.{Coefficients, Coordinates, value, inner_product, opposite_of, IsPlane, IsInWorld, is_same}
use Rattle.plane_predicate.proofs.lemmas.IntegerRing.{sums, one_mul, zero_mul, mul_comm_ℤ}
use Rattle.plane_predicate.proofs.lemmas.Identities.{combine, value_combine}
use Rattle.plane_predicate.proofs.lemmas.Opposites.{opposite_is_plane}
use Rattle.plane_predicate.proofs.lemmas.SamePlanes.{directed_above}
use Rattle.plane_predicate.proofs.lemmas.Signs.{signs, neg_pos}
use Rattle.plane_polygon.specs.Parts.{is_behind}
use Rattle.bsp_tree.specs.Trees.{BspTree, inside, outside, node, walk}
use Rattle.bsp_tree.specs.Cells.{world_box, IsNodePlaneOf}
use Rattle.bsp_tree.proofs.lemmas.NearPoints.{direction, value_direction, near_behind, near_ahead}
use Rattle.bsp_tree.proofs.lemmas.Openness.{often, in_near}
use Rattle.bsp_tree.proofs.lemmas.Opposites.{opposite_above, opposite_below, opposite_back, opposite_twice}
use Rattle.bsp_tree.proofs.lemmas.SameNumbers.{same_equal, not_same}
use Rattle.bsp_tree.proofs.lemmas.Worlds.{open_world}
use Rattle.csg_tree.specs.HalfSpaceTrees.{Tree, nothing, leaf, tree_join, SideAssignment, holds, truth_of_join, sides_of}
use Rattle.csg_tree.specs.HalfSpaceTrees as formulas
use Rattle.csg_tree.specs.FacePlanes.{IsFacePlane, IsOnOneFacePlane, sides_just_behind, sides_just_ahead}
use Rattle.csg_tree.specs.ProperTrees.{IsLeafPlane, HasFullLeaves}
use Rattle.bsp_boolean.specs.Solids.{solid_of}
use Rattle.bsp_boolean.proofs.lemmas.Solids.{tree_is_solid}
use Rattle.facet_cut.specs.Sides.{walk_by, AreJustBehind, AreJustAhead}

-- a tree holds alike under assignments that give its planes the same sides
all_alike : (planes : List Coefficients) (a b : SideAssignment) → ((m : Coefficients) → Contains planes m → a m ≡ b m) → list_all a planes ≡ list_all b planes
all_alike [] a b h = refl
all_alike (m ∷ planes) a b h =
    ap₂ ◌&&◌ (h m (0, omega arith, refl)) (all_alike planes a b (λ n c. h n (suc c.0, omega (arith, c.1), c.2)))

holds_alike : (f : Tree) (a b : SideAssignment) → ((m : Coefficients) → formulas.IsPlaneOf m f → a m ≡ b m) → holds f a ≡ holds f b
holds_alike nothing a b h = refl
holds_alike (leaf planes) a b h = all_alike planes a b h
holds_alike (tree_join op left right) a b h =
    ap₂ (truth_of_join op) (holds_alike left a b (λ m k. h m (inl k))) (holds_alike right a b (λ m k. h m (inr k)))

-- a walk by the sides of a point is its walk
either_alike : (x y : Bool) (a b c d : Bool) → x ≡ y → a ≡ c → b ≡ d → (if x then a else b) ≡ (if y then c else d)
either_alike x y a b c d hx ha hb = rw (hx, ha, hb) refl

walk_alike : (t : BspTree) (sides : SideAssignment) (q : Coordinates) → ((m : Coefficients) → IsNodePlaneOf m t → sides m ≡ is_behind m q) → walk_by t sides ≡ walk t q
walk_alike inside sides q h = refl
walk_alike outside sides q h = refl
walk_alike (node s b a) sides q h =
    either_alike (sides s.plane) (is_behind s.plane q) (walk_by b sides) (walk_by a sides) (walk b q) (walk a q)
    (h s.plane (inl refl)) (walk_alike b sides q (λ m k. h m (inr (inl k)))) (walk_alike a sides q (λ m k. h m (inr (inr k))))

-- each plane of a tree with full leaves is a plane
leaf_planes : (f : Tree) (m : Coefficients) → HasFullLeaves f → formulas.IsPlaneOf m f → IsPlane m
leaf_planes nothing m h k = absurd k
leaf_planes (leaf planes) m h k = let i : IsLeafPlane (get_or planes k.0 m) = h.1 k.0 m k.1 in subst IsPlane k.2 i.plane
leaf_planes (tree_join op left right) m h (inl k) = leaf_planes left m h.0 k
leaf_planes (tree_join op left right) m h (inr k) = leaf_planes right m h.1 k

pub face_plane_is_plane : (f : Tree) (n : Coefficients) → HasFullLeaves f → IsFacePlane n f → IsPlane n
face_plane_is_plane f n h (inl k) = leaf_planes f n h k
face_plane_is_plane f n h (inr k) = subst IsPlane (opposite_twice n) (opposite_is_plane (opposite_of n) (leaf_planes f (opposite_of n) h k))

-- how often a point is to be taken, so that it keeps its sides when v u is added
abbrev often_of : Tree → ℤ → Coordinates → ℕ
often_of nothing v u = 0
often_of (leaf planes) v u = often planes v u
often_of (tree_join op left right) v u = often_of left v u + often_of right v u

often_among : (planes : List Coefficients) (v : ℤ) (u : Coordinates) (m : Coefficients) → Contains planes m → unsigned_abs (v *ℤ value m u) ≤ often planes v u
often_among [] v u m h = absurd (omega (arith, h.1))
often_among (n ∷ planes) v u m (zero, l, e) = omega (arith, ap (λ (k : Coefficients). unsigned_abs (v *ℤ value k u)) e)
often_among (n ∷ planes) v u m (suc i, l, e) = omega (arith, often_among planes v u m (i, omega (arith, l), e))

often_each : (f : Tree) (v : ℤ) (u : Coordinates) (m : Coefficients) → formulas.IsPlaneOf m f → unsigned_abs (v *ℤ value m u) ≤ often_of f v u
often_each nothing v u m h = absurd h
often_each (leaf planes) v u m h = often_among planes v u m h
often_each (tree_join op left right) v u m (inl h) = omega (arith, often_each left v u m h)
often_each (tree_join op left right) v u m (inr h) = omega (arith, often_each right v u m h)

-- the point moved a little: ahead of n where v is above 0, and else behind it
abbrev times : Tree → ℤ → Coefficients → ℕ
times f v n = often world_box v (direction n) + often_of f v (direction n)

abbrev near : Tree → ℤ → Coefficients → Coordinates → Coordinates
near f v n p = combine (pos (suc (times f v n))) p v (direction n)

near_in_world : (f : Tree) (v : ℤ) (n : Coefficients) (p : Coordinates) → IsInWorld p → IsInWorld (near f v n p)
near_in_world f v n p h = (open_world (near f v n p)).0 (in_near world_box (times f v n) p v (direction n) (omega arith) ((open_world p).1 h))

below_zero : (x : ℤ) → x <ℤ pos 0 → int_lt x (pos 0) ≡ true
below_zero x h = grind (arith, ints)

above_zero : (x : ℤ) → pos 0 <ℤ x → int_lt x (pos 0) ≡ false
above_zero x h = grind (arith, ints)

no_zero_below : (x : ℤ) → x <ℤ pos 0 → x ≡ pos 0 → ⊥
no_zero_below x h e = omega (arith, sums)

no_zero_above : (x : ℤ) → pos 0 <ℤ x → x ≡ pos 0 → ⊥
no_zero_above x h e = omega (arith, sums)

-- a plane that the point is not on keeps its side
near_side : (f : Tree) (v : ℤ) (n : Coefficients) (p : Coordinates) (m : Coefficients) → formulas.IsPlaneOf m f → value m p ≢ pos 0 →
    (sides_of (near f v n p) m ≡ sides_of p m) × (value m (near f v n p) ≢ pos 0)
near_side f v n p m h off = elim (signs (value m p)) [
  | inl b ↦ (let c = near_behind m (times f v n) p v (direction n) (omega (arith, often_each f v (direction n) m h)) b in
      (below_zero (value m (near f v n p)) c ∙ sym (below_zero (value m p) b), no_zero_below (value m (near f v n p)) c))
  | inr (inl e) ↦ absurd (off e)
  | inr (inr a) ↦ (let c = near_ahead m (times f v n) p v (direction n) (omega (arith, often_each f v (direction n) m h)) a in
      (above_zero (value m (near f v n p)) c ∙ sym (above_zero (value m p) a), no_zero_above (value m (near f v n p)) c))
]

-- the plane itself is left on the side that v says
zero_out : (a x y : ℤ) → x ≡ pos 0 → a *ℤ x +ℤ y ≡ y
zero_out a x y e = ap (λ (z : ℤ). a *ℤ z +ℤ y) e ∙ ap (λ (z : ℤ). z +ℤ y) (mul_comm_ℤ a (pos 0) ∙ zero_mul a) ∙ omega (arith, sums)

value_near : (f : Tree) (v : ℤ) (n : Coefficients) (p : Coordinates) → value n p ≡ pos 0 → value n (near f v n p) ≡ v *ℤ inner_product n n
value_near f v n p e =
    value_combine n (pos (suc (times f v n))) p v (direction n)
    ∙ zero_out (pos (suc (times f v n))) (value n p) (v *ℤ value n (direction n)) e
    ∙ ap (λ (z : ℤ). v *ℤ z) (value_direction n n)

-- a point's sides of n and of its opposite, where n counts as b
pub record Takes (b : Bool) (n : Coefficients) (q : Coordinates) : Type 0 where
  pub itself : sides_of q n ≡ b
  pub opposite : sides_of q (opposite_of n) ≡ not b
  pub off : value n q ≢ pos 0

takes_behind : (n : Coefficients) (q : Coordinates) → value n q <ℤ pos 0 → Takes true n q
takes_behind n q h = record {
  itself = below_zero (value n q) h;
  opposite = above_zero (value (opposite_of n) q) (opposite_above n q h);
  off = no_zero_below (value n q) h;
}

takes_ahead : (n : Coefficients) (q : Coordinates) → pos 0 <ℤ value n q → Takes false n q
takes_ahead n q h = record {
  itself = above_zero (value n q) h;
  opposite = below_zero (value (opposite_of n) q) (opposite_below n q h);
  off = no_zero_above (value n q) h;
}

-- the sides of the point with n taken as b: just behind n, or just ahead of it
abbrev beside : Bool → Coefficients → Coordinates → SideAssignment
beside b n p m = if is_same m n then b else if is_same m (opposite_of n) then not b else sides_of p m

by_tests : (x y : Bool) (b r s : Bool) → (x ≡ true → s ≡ b) → (x ≡ false → y ≡ true → s ≡ not b) → (x ≡ false → y ≡ false → s ≡ r) → s ≡ (if x then b else if y then not b else r)
by_tests true y b r s f g h = f refl
by_tests false true b r s f g h = g refl refl
by_tests false false b r s f g h = h refl refl

near_sides : (f : Tree) (v : ℤ) (b : Bool) (n : Coefficients) (p : Coordinates) → IsOnOneFacePlane f n p → Takes b n (near f v n p) →
    (m : Coefficients) → formulas.IsPlaneOf m f → sides_of (near f v n p) m ≡ beside b n p m
near_sides f v b n p on takes m h =
    by_tests (is_same m n) (is_same m (opposite_of n)) b (sides_of p m) (sides_of (near f v n p) m)
    (λ e. ap (sides_of (near f v n p)) (same_equal m n e) ∙ takes.itself)
    (λ d e. ap (sides_of (near f v n p)) (same_equal m (opposite_of n) e) ∙ takes.opposite)
    (λ d e. (near_side f v n p m h (λ z. elim (on.alone m h z) [ inl i ↦ not_same m n d i | inr j ↦ not_same m (opposite_of n) e j ])).0)

opposite_off : (n : Coefficients) (q : Coordinates) (b : Bool) → Takes b n q → value (opposite_of n) q ≢ pos 0
opposite_off n q b takes e = takes.off (opposite_back n q e)

near_off : (f : Tree) (v : ℤ) (b : Bool) (n : Coefficients) (p : Coordinates) → IsOnOneFacePlane f n p → Takes b n (near f v n p) →
    (m : Coefficients) → formulas.IsPlaneOf m f → value m (near f v n p) ≡ pos 0 → ⊥
near_off f v b n p on takes m h z = elim (signs (value m p)) [
  | inl l ↦ (near_side f v n p m h (no_zero_below (value m p) l)).1 z
  | inr (inl e) ↦ (elim (on.alone m h e) [
    | inl i ↦ takes.off (ap (λ (k : Coefficients). value k (near f v n p)) (sym i) ∙ z)
    | inr j ↦ opposite_off n (near f v n p) b takes (ap (λ (k : Coefficients). value k (near f v n p)) (sym j) ∙ z)
  ])
  | inr (inr a) ↦ (near_side f v n p m h (no_zero_above (value m p) a)).1 z
]

-- the walk of the solid by those sides is whether the tree holds with them
walk_beside : (f : Tree) (v : ℤ) (b : Bool) (n : Coefficients) (p : Coordinates) → HasFullLeaves f → IsOnOneFacePlane f n p → Takes b n (near f v n p) →
    walk_by (solid_of f) (beside b n p) ≡ holds f (beside b n p)
walk_beside f v b n p full on takes =
    let solid = tree_is_solid f full in
    let q = near f v n p in
    walk_alike (solid_of f) (beside b n p) q (λ m k. sym (near_sides f v b n p on takes m (solid.planes m k)))
    ∙ solid.walks q (near_in_world f v n p on.world) (near_off f v b n p on takes)
    ∙ holds_alike f (sides_of q) (beside b n p) (near_sides f v b n p on takes)

-- what the sides are that a point with n taken as b has
opposite_beside : (b : Bool) (n : Coefficients) (p q : Coordinates) → Takes b n q → not b ≡ beside b n p (opposite_of n)
opposite_beside b n p q takes =
    let o = opposite_of n in
    by_tests (is_same o n) (is_same o o) b (sides_of p o) (not b)
    (λ e. sym takes.opposite ∙ ap (sides_of q) (same_equal o n e) ∙ takes.itself)
    (λ d e. refl)
    (λ d e. absurd (not_same o o e refl))

itself_beside : (b : Bool) (n : Coefficients) (p : Coordinates) → b ≡ beside b n p n
itself_beside b n p =
    by_tests (is_same n n) (is_same n (opposite_of n)) b (sides_of p n) b
    (λ e. refl) (λ d e. absurd (not_same n n d refl)) (λ d e. absurd (not_same n n d refl))

others_beside : (b : Bool) (n : Coefficients) (p : Coordinates) (m : Coefficients) → m ≢ n → m ≢ opposite_of n → sides_of p m ≡ beside b n p m
others_beside b n p m hn ho =
    by_tests (is_same m n) (is_same m (opposite_of n)) b (sides_of p m) (sides_of p m)
    (λ e. absurd (hn (same_equal m n e))) (λ d e. absurd (ho (same_equal m (opposite_of n) e))) (λ d e. refl)

-- the two points near by
behind_value : (x y : ℤ) → pos 0 <ℤ y → x ≡ negsuc 0 *ℤ y → x <ℤ pos 0
behind_value x y h e = subst (λ (z : ℤ). z <ℤ pos 0) (sym e) (neg_pos (negsuc 0) y (omega (arith, sums)) h)

ahead_value : (x y : ℤ) → pos 0 <ℤ y → x ≡ pos 1 *ℤ y → pos 0 <ℤ x
ahead_value x y h e = subst (λ (z : ℤ). pos 0 <ℤ z) (sym (e ∙ one_mul y)) h

near_behind_takes : (f : Tree) (n : Coefficients) (p : Coordinates) → IsPlane n → value n p ≡ pos 0 → Takes true n (near f (negsuc 0) n p)
near_behind_takes f n p h e =
    takes_behind n (near f (negsuc 0) n p)
    (behind_value (value n (near f (negsuc 0) n p)) (inner_product n n) (directed_above n h.directed) (value_near f (negsuc 0) n p e))

near_ahead_takes : (f : Tree) (n : Coefficients) (p : Coordinates) → IsPlane n → value n p ≡ pos 0 → Takes false n (near f (pos 1) n p)
near_ahead_takes f n p h e =
    takes_ahead n (near f (pos 1) n p)
    (ahead_value (value n (near f (pos 1) n p)) (inner_product n n) (directed_above n h.directed) (value_near f (pos 1) n p e))

-- the sides of a point on one face plane, just behind it and just ahead, and the walks of the tree's solid by them
abbrev pub BesideLeaves : Tree → Type 0
BesideLeaves f =
    (n : Coefficients) (p : Coordinates) → IsOnOneFacePlane f n p →
    AreJustBehind n p (sides_just_behind n p) × AreJustAhead n p (sides_just_ahead n p)
    × (walk_by (solid_of f) (sides_just_behind n p) ≡ holds f (sides_just_behind n p)) × (walk_by (solid_of f) (sides_just_ahead n p) ≡ holds f (sides_just_ahead n p))

pub beside_leaves : (f : Tree) → HasFullLeaves f → BesideLeaves f
beside_leaves f full n p on =
    let plane = face_plane_is_plane f n full on.face_plane in
    let behind = near_behind_takes f n p plane on.on in
    let ahead = near_ahead_takes f n p plane on.on in (
      record {
        itself = sym (itself_beside true n p);
        opposite = sym (opposite_beside true n p (near f (negsuc 0) n p) behind);
        others = λ m hn ho. sym (others_beside true n p m hn ho);
      },
      record {
        itself = sym (itself_beside false n p);
        opposite = sym (opposite_beside false n p (near f (pos 1) n p) ahead);
        others = λ m hn ho. sym (others_beside false n p m hn ho);
      },
      walk_beside f (negsuc 0) true n p full on behind,
      walk_beside f (pos 1) false n p full on ahead,
    )
