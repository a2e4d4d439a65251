-- Upright boxes as leaves: their faces over their table are the ones that their solid has.
use Rattle.std.proofs.Common.{◌≡◌, ℕ, zero, suc, ◌+◌, ◌<◌, true, false, List, [], ◌∷◌, length, get_or, map, refl, sym, ap, ap₂, ◌∙◌, subst, arith, add-one, ℤ, pos, negsuc, neg_ℤ, ◌+ℤ◌, ◌-ℤ◌, ◌<ℤ◌, All, int_cmp, int_eq, Less, Result}
use Rattle.std.proofs.lemmas.Bool.Decides.{Decides-int_eq}
use Rattle.std.proofs.lemmas.Cmp.{by_ranked, int_ranked}
use Rattle.std.proofs.lemmas.List.Elements.{All-cons, All-nil}
use Rattle.plane_predicate.specs.Space.{Coefficients, opposite_of, IsPlane}
use Rattle.plane_predicate.specs.declared.sides.Side.TheVariants as lying
use Rattle.plane_predicate.proofs.lemmas.IntegerRing.{sums}
use Rattle.plane_predicate.proofs.lemmas.Vectors.{value-opposite}
use Rattle.plane_polygon.specs.declared.classes.Class.{Class}
use Rattle.plane_polygon.specs.declared.classes.Class.TheVariants.{Behind}
use Rattle.plane_polygon.specs.Polygons.{Outline, missing_plane, IsPolygon}
use Rattle.plane_polygon.specs.Parallels.{HasAllOn, HasSameDirection}
use Rattle.plane_polygon.specs.Parts.{class_of}
use Rattle.plane_polygon.specs.Boxes.{high_x, low_x, high_y, low_y, high_z, low_z, trimmed_outline, outline_trimmed_to, box_outline}
use Rattle.plane_polygon.proofs.lemmas.BoxStarts.{four, four_polygon, over_x_above, over_x_below, over_y_above, over_y_below, over_z_above, over_z_below}
use Rattle.plane_polygon.proofs.lemmas.ParallelPlanes.{below_is_behind, above_is_ahead, same_direction}
use Rattle.plane_table.specs.declared.faces.Face.{Face}
use Rattle.plane_table.specs.Tables.{oriented_by_number, HasNoTwoAlike, NamesPlaneIn}
use Rattle.plane_table.specs.Faces.{outline_of, IsFaceOver}
use Rattle.plane_table.specs.Orders.{normal_form, plane_order}
use Rattle.plane_table.proofs.lemmas.Orders.{ascending_apart}
use Rattle.bsp_tree.specs.Shapes.{SolidParts}
use Rattle.bsp_tree.specs.Trees.{BspTree, inside}
use Rattle.bsp_boolean.specs.declared.leaf_building.BuildStop.{BuildStop}
use Rattle.bsp_boolean.specs.Chains.{part_behind_all, chain_of, outlines_of}
use Rattle.bsp_boolean.specs.LeafSolids.{solid_of_leaf, IsBuilt}
use Rattle.bsp_boolean.specs.UprightBoxes.{upright_box_faces, table_of, wall, HasRoomBetween, IsBox, IsPair}
use Rattle.bsp_boolean.proofs.Rectangles.{lies_behind}
use Rattle.bsp_boolean.proofs.BoxRows.{boxed, Axis, IsApart, AreApartPairs}
use Rattle.bsp_boolean.proofs.Convex.{all_is_convex}

-- ---- a plane of a direction
abbrev upright : ℤ → ℤ → ℤ → ℤ → Coefficients
upright a b c d = record { a = a; b = b; c = c; d = d }

upright_is : (m n : Coefficients) → HasSameDirection m n → m ≡ upright n.a n.b n.c m.d
upright_is m n h =
    let a = h.a in
    let b = h.b in
    let c = h.c in
    λ i. record { a = a i; b = b i; c = c i; d = m.d }

-- ---- parallel planes: the first one behind the second, ahead of it, and facing it
behind_it : (a b c d e : ℤ) → d <ℤ e → HasAllOn (upright a b c d) (upright a b c e) lying.Behind
behind_it a b c d e k = λ v w on.
    sym (below_is_behind (d -ℤ e) (omega (arith, sums))) ∙ same_direction (upright a b c d) (upright a b c e) refl refl refl v w on

ahead_of_it : (a b c d e : ℤ) → e <ℤ d → HasAllOn (upright a b c d) (upright a b c e) lying.Ahead
ahead_of_it a b c d e k = λ v w on.
    sym (above_is_ahead (d -ℤ e) (omega (arith, sums))) ∙ same_direction (upright a b c d) (upright a b c e) refl refl refl v w on

facing_it : (p : Coefficients) (e : ℤ) → pos 0 <ℤ (p.d +ℤ e) → HasAllOn p (upright (neg_ℤ p.a) (neg_ℤ p.b) (neg_ℤ p.c) e) lying.Behind
facing_it p e k = λ v w on.
    sym (below_is_behind (neg_ℤ p.d -ℤ e) (omega (arith, sums)))
    ∙ same_direction (opposite_of p) (upright (neg_ℤ p.a) (neg_ℤ p.b) (neg_ℤ p.c) e) refl refl refl v w (value-opposite p v ∙ ap neg_ℤ on)

twice : (x : ℤ) → neg_ℤ (neg_ℤ x) ≡ x
twice x = omega (arith, sums)

facing_back : (a b c d e : ℤ) → pos 0 <ℤ (d +ℤ e) → HasAllOn (upright (neg_ℤ a) (neg_ℤ b) (neg_ℤ c) d) (upright a b c e) lying.Behind
facing_back a b c d e k =
    let x = twice a in
    let y = twice b in
    let z = twice c in
    let same : upright (neg_ℤ (neg_ℤ a)) (neg_ℤ (neg_ℤ b)) (neg_ℤ (neg_ℤ c)) e ≡ upright a b c e = λ i. upright (x i) (y i) (z i) e in
    subst (λ (m : Coefficients). HasAllOn (upright (neg_ℤ a) (neg_ℤ b) (neg_ℤ c) d) m lying.Behind) same
    (facing_it (upright (neg_ℤ a) (neg_ℤ b) (neg_ℤ c) d) e k)

axis : (a b c p q : ℤ) → HasRoomBetween p q →
    Axis (upright (neg_ℤ a) (neg_ℤ b) (neg_ℤ c) (pos 4096)) (upright (neg_ℤ a) (neg_ℤ b) (neg_ℤ c) p) (upright a b c q) (upright a b c (pos 4096))
axis a b c p q h =
    let low = h.low_within in
    let high = h.high_within in
    let room = h.between in
    record {
      l_m = ahead_of_it (neg_ℤ a) (neg_ℤ b) (neg_ℤ c) (pos 4096) p low;
      n_m = facing_it (upright a b c q) p (omega (arith, sums));
      h_m = facing_it (upright a b c (pos 4096)) p (omega (arith, sums));
      l_n = facing_back a b c (pos 4096) q (omega (arith, sums));
      m_n = facing_back a b c p q room;
      h_n = ahead_of_it a b c (pos 4096) q high;
      m_l = behind_it (neg_ℤ a) (neg_ℤ b) (neg_ℤ c) p (pos 4096) low;
      m_h = facing_back a b c p (pos 4096) (omega (arith, sums));
      n_l = facing_it (upright a b c q) (pos 4096) (omega (arith, sums));
      n_h = behind_it a b c q (pos 4096) high;
    }

-- ---- a box's planes
abbrev x_low : ℤ → Coefficients
x_low d = upright (negsuc 0) (pos 0) (pos 0) d

abbrev x_high : ℤ → Coefficients
x_high d = upright (pos 1) (pos 0) (pos 0) d

abbrev y_low : ℤ → Coefficients
y_low d = upright (pos 0) (negsuc 0) (pos 0) d

abbrev y_high : ℤ → Coefficients
y_high d = upright (pos 0) (pos 1) (pos 0) d

abbrev z_low : ℤ → Coefficients
z_low d = upright (pos 0) (pos 0) (negsuc 0) d

abbrev z_high : ℤ → Coefficients
z_high d = upright (pos 0) (pos 0) (pos 1) d

-- the offsets aren't opposite
differ : (p q : ℤ) → HasRoomBetween p q → int_eq q (neg_ℤ p) ≡ false
differ p q h =
    let room = h.between in
    elim (int_eq q (neg_ℤ p)) as (λ b. int_eq q (neg_ℤ p) ≡ b → b ≡ false) [
      | true ↦ λ e. absurd (let same : q ≡ neg_ℤ p = (Decides-int_eq q (neg_ℤ p)).0 e in omega (arith, sums))
      | false ↦ λ e. refl
    ] refl

x_apart : (p q : ℤ) → HasRoomBetween p q → IsApart (x_high q) (x_low p)
x_apart p q h = record { same = refl; opposite = differ p q h }

y_apart : (p q : ℤ) → HasRoomBetween p q → IsApart (y_high q) (y_low p)
y_apart p q h = record { same = refl; opposite = differ p q h }

z_apart : (p q : ℤ) → HasRoomBetween p q → IsApart (z_high q) (z_low p)
z_apart p q h = record { same = refl; opposite = differ p q h }

-- ---- box polygons
untrimmed : (s : Outline) (high low : Coefficients) → class_of s high ≡ Behind → class_of s low ≡ Behind → trimmed_outline (trimmed_outline s high) low ≡ s
untrimmed s high low c d =
    ap (λ (t : Outline). trimmed_outline t low) (ap (λ (k : Class). outline_trimmed_to k s high) c) ∙ ap (λ (k : Class). outline_trimmed_to k s low) d

below : negsuc 0 <ℤ pos 0
below = omega (arith, sums)

above : pos 0 <ℤ pos 1
above = omega (arith, sums)

-- ---- the table
less : (x y : ℤ) → x <ℤ y → int_cmp x y ≡ Less
less x y h = by_ranked (x <ℤ y) (x ≡ y) (y <ℤ x) {G = int_cmp x y ≡ Less} (int_cmp x y) (int_ranked x y (int_cmp x y) refl)
    (λ e k. e) (λ e k. absurd (omega (arith, sums))) (λ e k. absurd (omega (arith, sums)))

abbrev Rises : List Coefficients → Type 0
Rises [] = Unit {0}
Rises (m ∷ []) = Unit {0}
Rises (m ∷ n ∷ ms) = (plane_order m n ≡ Less) × Rises (n ∷ ms)

next_rises : (ms : List Coefficients) (i : ℕ) → Rises ms → i + 1 < length ms → plane_order (get_or ms i missing_plane) (get_or ms (i + 1) missing_plane) ≡ Less
next_rises [] i h l = absurd (omega arith)
next_rises (m ∷ []) i h l = absurd (omega arith)
next_rises (m ∷ n ∷ ms) zero h l = h.0
next_rises (m ∷ n ∷ ms) (suc i) h l =
    let e : get_or (m ∷ n ∷ ms) (suc i + 1) missing_plane ≡ get_or (n ∷ ms) (i + 1) missing_plane =
    ap (λ (k : ℕ). get_or (m ∷ n ∷ ms) k missing_plane) (add-one (suc i)) ∙ ap (λ (k : ℕ). get_or (n ∷ ms) k missing_plane) (sym (add-one i)) in
    ap (plane_order (get_or (n ∷ ms) i missing_plane)) e ∙ next_rises (n ∷ ms) i h.1 (omega arith)

rising : (ms : List Coefficients) → Rises ms → HasNoTwoAlike ms
rising ms h = ascending_apart ms (record { next = λ i l. next_rises ms i h l })

abbrev table : (a b c d e f : ℤ) → List Coefficients
table a b c d e f = low_z ∷ z_low e ∷ z_high f ∷ high_z ∷ low_y ∷ y_low c ∷ y_high d ∷ high_y ∷ x_low a ∷ x_high b ∷ []

table_rises : (a b c d e f : ℤ) → HasRoomBetween a b → HasRoomBetween c d → HasRoomBetween e f → Rises (table a b c d e f)
unfolding normal_form
table_rises a b c d e f x y z =
    let xr = x.between in
    let yl = y.low_within in
    let yh = y.high_within in
    let yr = y.between in
    let zl = z.low_within in
    let zh = z.high_within in
    let zr = z.between in (
      less (negsuc 4095) (neg_ℤ e) (omega (arith, sums)),
      (
        less (neg_ℤ e) f (omega (arith, sums)),
        (
          less f (pos 4096) zh,
          (
            refl,
            (
              less (negsuc 4095) (neg_ℤ c) (omega (arith, sums)),
              (
                less (neg_ℤ c) d (omega (arith, sums)),
                (
                  less d (pos 4096) yh,
                  (
                    refl,
                    (less (neg_ℤ a) b (omega (arith, sums)), tt),
                  ),
                ),
              ),
            ),
          ),
        ),
      ),
    )

-- ---- the faces
edges_in : (planes : List Coefficients) (a b c d : ℕ) → NamesPlaneIn planes a → NamesPlaneIn planes b → NamesPlaneIn planes c → NamesPlaneIn planes d →
    All (NamesPlaneIn planes) (a ∷ b ∷ c ∷ d ∷ [])
edges_in planes a b c d ha hb hc hd =
    All-cons (NamesPlaneIn planes) a (b ∷ c ∷ d ∷ []) ha (All-cons (NamesPlaneIn planes) b (c ∷ d ∷ []) hb
    (All-cons (NamesPlaneIn planes) c (d ∷ []) hc (All-cons (NamesPlaneIn planes) d [] hd (All-nil (NamesPlaneIn planes)))))

six_all : {A : Type 0} (P : A → Type 0) (a b c d e f : A) → P a → P b → P c → P d → P e → P f → All P (a ∷ b ∷ c ∷ d ∷ e ∷ f ∷ [])
six_all P a b c d e f ha hb hc hd he hf =
    All-cons P a (b ∷ c ∷ d ∷ e ∷ f ∷ []) ha (All-cons P b (c ∷ d ∷ e ∷ f ∷ []) hb (All-cons P c (d ∷ e ∷ f ∷ []) hc
    (All-cons P d (e ∷ f ∷ []) hd (All-cons P e (f ∷ []) he (All-cons P f [] hf (All-nil P))))))

abbrev side : ℕ → ℕ → ℕ → ℕ → ℕ → Face
side n a b c d = record { plane = n; edges = a ∷ b ∷ c ∷ d ∷ [] }

face_over : (planes : List Coefficients) (n a b c d : ℕ) → length planes ≡ 10 → n < 20 → a < 20 → b < 20 → c < 20 → d < 20 →
    IsPolygon (outline_of planes (record { plane = n; edges = a ∷ b ∷ c ∷ d ∷ [] })) → IsFaceOver planes (record { plane = n; edges = a ∷ b ∷ c ∷ d ∷ [] })
face_over planes n a b c d ten hn ha hb hc hd p = record {
  plane = omega arith;
  edges = edges_in planes a b c d (omega arith) (omega arith) (omega arith) (omega arith);
  polygon = p;
}

-- ---- all of it, by the six offsets
record IsKnown (a b c d e f : ℤ) : Type 0 where
  pub tree : part_behind_all (map box_outline (x_low a ∷ x_high b ∷ y_low c ∷ y_high d ∷ z_low e ∷ z_high f ∷ [])) ≡ chain_of (outlines_of (table a b c d e f) upright_box_faces) inside
  pub faces : All (IsFaceOver (table a b c d e f)) upright_box_faces
  pub apart : HasNoTwoAlike (table a b c d e f)

six_outlines : (r s t u v w : Outline) (m n o p q k : Coefficients) → box_outline m ≡ r → box_outline n ≡ s → box_outline o ≡ t → box_outline p ≡ u → box_outline q ≡ v → box_outline k ≡ w →
    map box_outline (m ∷ n ∷ o ∷ p ∷ q ∷ k ∷ []) ≡ r ∷ s ∷ t ∷ u ∷ v ∷ w ∷ []
six_outlines r s t u v w m n o p q k a b c d e f = λ i. a i ∷ b i ∷ c i ∷ d i ∷ e i ∷ f i ∷ []

known : (a b c d e f : ℤ) → HasRoomBetween a b → HasRoomBetween c d → HasRoomBetween e f → IsKnown a b c d e f
unfolding oriented_by_number
known a b c d e f hx hy hz =
    let x : Axis low_x (x_low a) (x_high b) high_x = axis (pos 1) (pos 0) (pos 0) a b hx in
    let y : Axis low_y (y_low c) (y_high d) high_y = axis (pos 0) (pos 1) (pos 0) c d hy in
    let z : Axis low_z (z_low e) (z_high f) high_z = axis (pos 0) (pos 0) (pos 1) e f hz in
    let p1 = four_polygon (x_low a) low_y high_z high_y low_z (over_x_below (x_low a) below) in
    let p2 = four_polygon (x_high b) low_y low_z high_y high_z (over_x_above (x_high b) above) in
    let p3 = four_polygon (y_low c) low_x low_z high_x high_z (over_y_below (y_low c) below) in
    let p4 = four_polygon (y_high d) low_x high_z high_x low_z (over_y_above (y_high d) above) in
    let p5 = four_polygon (z_low e) low_x high_y high_x low_y (over_z_below (z_low e) below) in
    let p6 = four_polygon (z_high f) low_x low_y high_x high_y (over_z_above (z_high f) above) in
    let yx : AreApartPairs (y_low c) (y_high d) (x_low a) (x_high b) = record {
      m_u = record { same = refl; opposite = refl };
      m_v = record { same = refl; opposite = refl };
      n_u = record { same = refl; opposite = refl };
      n_v = record { same = refl; opposite = refl };
    } in
    let zx : AreApartPairs (z_low e) (z_high f) (x_low a) (x_high b) = record {
      m_u = record { same = refl; opposite = refl };
      m_v = record { same = refl; opposite = refl };
      n_u = record { same = refl; opposite = refl };
      n_v = record { same = refl; opposite = refl };
    } in
    let zy : AreApartPairs (z_low e) (z_high f) (y_low c) (y_high d) = record {
      m_u = record { same = refl; opposite = refl };
      m_v = record { same = refl; opposite = refl };
      n_u = record { same = refl; opposite = refl };
      n_v = record { same = refl; opposite = refl };
    } in
    let box = boxed low_x (x_low a) (x_high b) high_x low_y (y_low c) (y_high d) high_y low_z (z_low e) (z_high f) high_z x y z
    (x_apart a b hx) (y_apart c d hy) (z_apart e f hz) yx zx zy p1 p2 p3 p4 p5 p6 in
    let outlines = six_outlines (four (x_low a) low_y high_z high_y low_z) (four (x_high b) low_y low_z high_y high_z) (four (y_low c) low_x low_z high_x high_z)
    (four (y_high d) low_x high_z high_x low_z) (four (z_low e) low_x high_y high_x low_y) (four (z_high f) low_x low_y high_x high_y)
    (x_low a) (x_high b) (y_low c) (y_high d) (z_low e) (z_high f)
    (untrimmed _ high_x low_x (lies_behind _ _ _ _ _ high_x p1 x.m_h) (lies_behind _ _ _ _ _ low_x p1 x.m_l))
    (untrimmed _ high_x low_x (lies_behind _ _ _ _ _ high_x p2 x.n_h) (lies_behind _ _ _ _ _ low_x p2 x.n_l))
    (untrimmed _ high_y low_y (lies_behind _ _ _ _ _ high_y p3 y.m_h) (lies_behind _ _ _ _ _ low_y p3 y.m_l))
    (untrimmed _ high_y low_y (lies_behind _ _ _ _ _ high_y p4 y.n_h) (lies_behind _ _ _ _ _ low_y p4 y.n_l))
    (untrimmed _ high_z low_z (lies_behind _ _ _ _ _ high_z p5 z.m_h) (lies_behind _ _ _ _ _ low_z p5 z.m_l))
    (untrimmed _ high_z low_z (lies_behind _ _ _ _ _ high_z p6 z.n_h) (lies_behind _ _ _ _ _ low_z p6 z.n_l)) in
    let planes = table a b c d e f in
    let ten : length planes ≡ 10 = refl in
    record {
      tree = ap part_behind_all outlines ∙ box.tree;
      faces =
          six_all (IsFaceOver planes) (side 16 8 6 14 0) (side 18 8 0 14 6) (side 10 0 18 6 16) (side 12 6 18 0 16) (side 2 12 18 10 16) (side 4 10 18 12 16)
          (face_over planes 16 8 6 14 0 ten (omega arith) (omega arith) (omega arith) (omega arith) (omega arith) p1)
          (face_over planes 18 8 0 14 6 ten (omega arith) (omega arith) (omega arith) (omega arith) (omega arith) p2)
          (face_over planes 10 0 18 6 16 ten (omega arith) (omega arith) (omega arith) (omega arith) (omega arith) box.y_low)
          (face_over planes 12 6 18 0 16 ten (omega arith) (omega arith) (omega arith) (omega arith) (omega arith) box.y_high)
          (face_over planes 2 12 18 10 16 ten (omega arith) (omega arith) (omega arith) (omega arith) (omega arith) box.z_low)
          (face_over planes 4 10 18 12 16 ten (omega arith) (omega arith) (omega arith) (omega arith) (omega arith) box.z_high);
      apart = rising planes (table_rises a b c d e f hx hy hz);
    }

-- ---- a leaf's planes
-- six items of a list
six_items : (ms : List Coefficients) → length ms ≡ 6 → ms ≡ wall ms 0 ∷ wall ms 1 ∷ wall ms 2 ∷ wall ms 3 ∷ wall ms 4 ∷ wall ms 5 ∷ []
six_items [] h = absurd (omega arith)
six_items (a ∷ []) h = absurd (omega arith)
six_items (a ∷ b ∷ []) h = absurd (omega arith)
six_items (a ∷ b ∷ c ∷ []) h = absurd (omega arith)
six_items (a ∷ b ∷ c ∷ d ∷ []) h = absurd (omega arith)
six_items (a ∷ b ∷ c ∷ d ∷ e ∷ []) h = absurd (omega arith)
six_items (a ∷ b ∷ c ∷ d ∷ e ∷ f ∷ []) h = refl
six_items (a ∷ b ∷ c ∷ d ∷ e ∷ f ∷ g ∷ ms) h = absurd (omega arith)

pub record HasKnownFaces (planes : List Coefficients) : Type 0 where
  pub tree : chain_of (outlines_of (table_of planes) upright_box_faces) inside ≡ solid_of_leaf planes
  pub faces : All (IsFaceOver (table_of planes)) upright_box_faces
  pub apart : HasNoTwoAlike (table_of planes)

pub record HasKnownWalls (m n o p q k : Coefficients) : Type 0 where
  pub tree : part_behind_all (map box_outline (m ∷ n ∷ o ∷ p ∷ q ∷ k ∷ [])) ≡ chain_of (outlines_of (low_z ∷ q ∷ k ∷ high_z ∷ low_y ∷ o ∷ p ∷ high_y ∷ m ∷ n ∷ []) upright_box_faces) inside
  pub faces : All (IsFaceOver (low_z ∷ q ∷ k ∷ high_z ∷ low_y ∷ o ∷ p ∷ high_y ∷ m ∷ n ∷ [])) upright_box_faces
  pub apart : HasNoTwoAlike (low_z ∷ q ∷ k ∷ high_z ∷ low_y ∷ o ∷ p ∷ high_y ∷ m ∷ n ∷ [])

known_walls : (m n o p q k : Coefficients) → IsPair m n low_x high_x → IsPair o p low_y high_y → IsPair q k low_z high_z → HasKnownWalls m n o p q k
known_walls m n o p q k x y z =
    let known_ones = known m.d n.d o.d p.d q.d k.d x.room y.room z.room in
    let whole : HasKnownWalls (x_low m.d) (x_high n.d) (y_low o.d) (y_high p.d) (z_low q.d) (z_high k.d) =
    record { tree = known_ones.tree; faces = known_ones.faces; apart = known_ones.apart } in
    let em = sym (upright_is m low_x x.low_along) in
    let en = sym (upright_is n high_x x.high_along) in
    let eo = sym (upright_is o low_y y.low_along) in
    let ep = sym (upright_is p high_y y.high_along) in
    let ez = sym (upright_is q low_z z.low_along) in
    let eh = sym (upright_is k high_z z.high_along) in
    subst (λ (v : Coefficients). HasKnownWalls v n o p q k) em (subst (λ (v : Coefficients). HasKnownWalls (x_low m.d) v o p q k) en
    (subst (λ (v : Coefficients). HasKnownWalls (x_low m.d) (x_high n.d) v p q k) eo (subst (λ (v : Coefficients). HasKnownWalls (x_low m.d) (x_high n.d) (y_low o.d) v q k) ep
    (subst (λ (v : Coefficients). HasKnownWalls (x_low m.d) (x_high n.d) (y_low o.d) (y_high p.d) v k) ez
    (subst (λ (v : Coefficients). HasKnownWalls (x_low m.d) (x_high n.d) (y_low o.d) (y_high p.d) (z_low q.d) v) eh whole)))))

pub box_known : (planes : List Coefficients) → IsBox planes → HasKnownFaces planes
box_known planes h =
    let walls = known_walls (wall planes 0) (wall planes 1) (wall planes 2) (wall planes 3) (wall planes 4) (wall planes 5) h.x h.y h.z in record {
      tree = sym walls.tree ∙ ap (λ (ms : List Coefficients). part_behind_all (map box_outline ms)) (sym (six_items planes h.six)) ∙ all_is_convex planes;
      faces = walls.faces;
      apart = walls.apart;
    }

-- what was built of a box's faces
pub box_built : (planes ms : List Coefficients) (faces : List Face) (most : ℕ) (r : Result SolidParts BuildStop) → IsBox planes → ms ≡ table_of planes → faces ≡ upright_box_faces →
    IsBuilt (chain_of (outlines_of ms faces) inside) most r → IsBuilt (solid_of_leaf planes) most r
box_built planes ms faces most r h e k built =
    subst (λ (t : BspTree). IsBuilt t most r)
    (ap₂ (λ (ps : List Coefficients) (fs : List Face). chain_of (outlines_of ps fs) inside) e k ∙ (box_known planes h).tree) built

-- each plane of a box is a plane
pub box_planes : (planes : List Coefficients) → IsBox planes → All IsPlane planes
box_planes planes h =
    subst (All IsPlane) (sym (six_items planes h.six))
    (six_all IsPlane (wall planes 0) (wall planes 1) (wall planes 2) (wall planes 3) (wall planes 4) (wall planes 5)
    h.x.low_plane h.x.high_plane h.y.low_plane h.y.high_plane h.z.low_plane h.z.high_plane)
