-- Corners of faces, and lists of them.
use Rattle.std.proofs.Common.{◌≡◌, ◌≢◌, inl, inr, eqb, cond, ℕ, zero, suc, ◌+◌, ◌-◌, ◌<◌, ◌<ℤ◌, ◌⊎◌, subst, Option, None, Some, IfSome, Bool, true, false, ◌||◌, List, [], ◌∷◌, ◌++◌, length, get_or, map, refl, sym, ap, ap₂, ◌∙◌, arith, add-one, ℤ, pos, negsuc, int_lt}
use Rattle.std.proofs.lemmas.List.{map-append, length-append, length-map, get_or_append_left, get_or_push}
use Rattle.std.proofs.lemmas.Bool.{cases_lt, eqb-false, eqb-true}
use Rattle.std.proofs.lemmas.Int.{ints}
use Rattle.plane_predicate.specs.Space.{Coefficients, Coordinates, meeting_by_cramers_rule, value}
use Rattle.plane_predicate.specs.Sides.{side_of, is_side_behind, is_side_ahead}
use Rattle.plane_predicate.specs.declared.sides.Side.{Side}
use Rattle.plane_predicate.specs.declared.sides.Side.TheVariants.{Behind, On, Ahead}
use Rattle.plane_polygon.specs.declared.classes.Class.TheVariants.{Across}
use Rattle.plane_predicate.proofs.lemmas.Identities.{cramer_on_first, cramer_on_second, cramer_on_third}
use Rattle.plane_polygon.specs.Parallels.{HasAllOn}
use Rattle.plane_polygon.specs.Polygons.{Outline, corner, edge_plane, edge_count, missing_plane}
use Rattle.plane_polygon.specs.Parts.{corners, some_of, is_behind, is_ahead, class_by_sides, class_of}
use Rattle.plane_table.specs.declared.faces.Face.{Face}
use Rattle.plane_table.specs.declared.sorting.CornerSide.{CornerSide}
use Rattle.plane_table.specs.declared.sorting.CornerSides.{CornerSides}
use Rattle.plane_table.specs.Tables.{plane_named}
use Rattle.plane_table.specs.Faces.{outline_of, side_against, AreFourSides, AreSidesOf, AreSidesWhereAcross, IsFaceOver, IsSideAt}
use Rattle.plane_table.proofs.Numbers.{get_map}
use Rattle.plane_predicate.specs.Indices.{indices_below, index_after}

-- ---- sides
pub side_behind : (v : ℤ) → is_side_behind (side_of v) ≡ int_lt v (pos 0)
side_behind (pos zero) = grind (arith, ints)
side_behind (pos (suc n)) = grind (arith, ints)
side_behind (negsuc n) = grind (arith, ints)

pub side_ahead : (v : ℤ) → is_side_ahead (side_of v) ≡ int_lt (pos 0) v
side_ahead (pos zero) = grind (arith, ints)
side_ahead (pos (suc n)) = grind (arith, ints)
side_ahead (negsuc n) = grind (arith, ints)

pub after_in : (k i : ℕ) → i < k → index_after k i < k
after_in k i h = elim (eqb (suc i) k) as (λ b. eqb (suc i) k ≡ b → cond b 0 (suc i) < k) [
  | true ↦ λ e. omega arith
  | false ↦ λ e. (let n = eqb-false (suc i) k e in let m : suc i ≢ k = n in omega arith)
] refl

-- ---- 0, 1, .. below n
pub length-indices_below : (n : ℕ) → length (indices_below n) ≡ n
length-indices_below zero = refl
length-indices_below (suc n) = length-append (indices_below n) (n ∷ []) ∙ (let e = length-indices_below n in omega arith)

pub get_up_to : (n i d : ℕ) → i < n → get_or (indices_below n) i d ≡ i
get_up_to zero i d h = absurd (omega arith)
get_up_to (suc n) i d h = elim (cases_lt i n) [
  | inl l ↦ get_or_append_left (indices_below n) (n ∷ []) d i (let e = length-indices_below n in omega arith) ∙ get_up_to n i d l
  | inr l ↦ (let e : i ≡ n = omega arith in get_or_push (indices_below n) n d i (length-indices_below n ∙ sym e) ∙ sym e)
]

-- one more number
pub map_step : {A : Type 0} (f : ℕ → A) (n : ℕ) (found : List A) (x : A) → found ≡ map f (indices_below n) → x ≡ f n → found ++ x ∷ [] ≡ map f (indices_below (n + 1))
map_step f n found x e h =
    ap₂ (λ (l : List _) (y : _). l ++ y ∷ []) e h
    ∙ sym (map-append f (indices_below n) (n ∷ []))
    ∙ ap (λ (k : ℕ). map f (indices_below k)) (sym (add-one n))

or_last : (x : Bool) → (x || false) ≡ x
or_last true = refl
or_last false = refl

or_assoc : (x y z : Bool) → (x || (y || z)) ≡ ((x || y) || z)
or_assoc true y z = refl
or_assoc false y z = refl

some_more : {A : Type 0} (p : A → Bool) (xs : List A) (y : A) → some_of p (xs ++ y ∷ []) ≡ (some_of p xs || p y)
some_more p [] y = or_last (p y)
some_more p (x ∷ xs) y = ap (λ (b : Bool). p x || b) (some_more p xs y) ∙ or_assoc (p x) (some_of p xs) (p y)

-- one more corner
pub some_step : (p : Coordinates → Bool) (f : ℕ → Coordinates) (n : ℕ) (found here : Bool) → found ≡ some_of p (map f (indices_below n)) → here ≡ p (f n) → (found || here) ≡ some_of p (map f (indices_below (n + 1)))
some_step p f n found here e h =
    ap₂ (λ (b c : Bool). b || c) e h
    ∙ sym (some_more p (map f (indices_below n)) (f n))
    ∙ ap (some_of p) (sym (map-append f (indices_below n) (n ∷ [])))
    ∙ ap (λ (k : ℕ). some_of p (map f (indices_below k))) (sym (add-one n))

map_map : {A B C : Type 0} (f : B → C) (g : A → B) (xs : List A) → map f (map g xs) ≡ map (λ x. f (g x)) xs
map_map f g [] = refl
map_map f g (x ∷ xs) = ap (λ (l : List _). f (g x) ∷ l) (map_map f g xs)

-- the sides of the corners, corner by corner
pub sides_map : (s : Outline) (m : Coefficients) → map (side_against m) (corners s) ≡ map (λ i. side_against m (corner s i)) (indices_below (edge_count s))
sides_map s m = map_map (side_against m) (corner s) (indices_below (edge_count s))

-- ---- the corners of a face
pub corner_is : (planes : List Coefficients) (face : Face) (i : ℕ) → i < length face.edges → index_after (length face.edges) i < length face.edges →
    corner (outline_of planes face) i ≡ meeting_by_cramers_rule (plane_named planes face.plane) (plane_named planes (get_or face.edges i 0)) (plane_named planes (get_or face.edges (index_after (length face.edges) i) 0))
corner_is planes face i h k =
    let n = length-map face.edges (plane_named planes) in
    ap (λ (j : ℕ). meeting_by_cramers_rule (plane_named planes face.plane) (get_or (map (plane_named planes) face.edges) i missing_plane) (get_or (map (plane_named planes) face.edges) (index_after j i) missing_plane)) n
    ∙ ap₂ (λ (p q : Coefficients). meeting_by_cramers_rule (plane_named planes face.plane) p q) (get_map (plane_named planes) face.edges i 0 missing_plane h) (get_map (plane_named planes) face.edges (index_after (length face.edges) i) 0 missing_plane k)

-- all corners
pub class_end : (planes : List Coefficients) (face : Face) (m : Coefficients) (b a : Bool) →
    b ≡ some_of (is_behind m) (map (corner (outline_of planes face)) (indices_below (length face.edges))) →
    a ≡ some_of (is_ahead m) (map (corner (outline_of planes face)) (indices_below (length face.edges))) →
    class_by_sides b a ≡ class_of (outline_of planes face) m
class_end planes face m b a p q =
    let s : Outline = outline_of planes face in
    let n = length-map face.edges (plane_named planes) in
    ap₂ class_by_sides
    (p ∙ ap (λ (k : ℕ). some_of (is_behind m) (map (corner s) (indices_below k))) (sym n))
    (q ∙ ap (λ (k : ℕ). some_of (is_ahead m) (map (corner s) (indices_below k))) (sym n))

pub sides_end : (planes : List Coefficients) (face : Face) (m : Coefficients) (found : List CornerSide) →
    found ≡ map (λ i. side_against m (corner (outline_of planes face) i)) (indices_below (length face.edges)) →
    found ≡ map (side_against m) (corners (outline_of planes face))
sides_end planes face m found e =
    let s : Outline = outline_of planes face in
    e
    ∙ ap (λ (k : ℕ). map (λ i. side_against m (corner s i)) (indices_below k)) (sym (length-map face.edges (plane_named planes)))
    ∙ sym (sides_map s m)

-- where all corners are listed, those of an outline that is across are
pub all_listed : (s : Outline) (m : Coefficients) (found : CornerSides) → AreSidesOf s m found → AreSidesWhereAcross s m found
all_listed s m found h = record {
  class = h.class;
  corners = λ across. h.corners;
}

-- the side of a corner by the side that was tested
pub side_pair : (m : Coefficients) (p : Coordinates) (side : _) (b a : Bool) → side ≡ side_of (value m p) → b ≡ is_side_behind side → a ≡ is_side_ahead side →
    ◌≡◌ {A = CornerSide} (record { is_behind = b; is_ahead = a }) (side_against m p)
side_pair m p side b a e x y =
    let f = x ∙ ap is_side_behind e ∙ side_behind (value m p) in
    let g = y ∙ ap is_side_ahead e ∙ side_ahead (value m p) in
    λ i. record { is_behind = f i; is_ahead = g i }

-- ---- what is known of the side of a corner
pub some_on : (p m : Coefficients) (side : Option Side) (v : Coordinates) → pos 0 <ℤ v.w → value p v ≡ pos 0 → IfSome side (HasAllOn p m) → IfSome side (λ s. s ≡ side_of (value m v))
some_on p m None v w on h = tt
some_on p m (Some side) v w on h = h v w on

one_of : (ends begins known : Option Side) (P : Side → Type 0) → (known ≡ ends) ⊎ (known ≡ begins) → IfSome ends P → IfSome begins P → IfSome known P
one_of ends begins known P choose b c = elim choose [
  | inl e ↦ subst (λ (side : Option Side). IfSome side P) (sym e) b
  | inr e ↦ subst (λ (side : Option Side). IfSome side P) (sym e) c
]

-- by the two edge planes that meet there
pub known_at : (planes : List Coefficients) (face : Face) (m : Coefficients) (i : ℕ) (ends begins known : Option Side) →
    IsFaceOver planes face → i < length face.edges →
    IfSome ends (HasAllOn (plane_named planes (get_or face.edges i 0)) m) →
    IfSome begins (HasAllOn (plane_named planes (get_or face.edges (index_after (length face.edges) i) 0)) m) →
    (known ≡ ends) ⊎ (known ≡ begins) →
    IfSome known (IsSideAt planes face m i)
known_at planes face m i ends begins known h l b c choose =
    let p = plane_named planes face.plane in
    let q = plane_named planes (get_or face.edges i 0) in
    let r = plane_named planes (get_or face.edges (index_after (length face.edges) i) 0) in
    let e = corner_is planes face i l (after_in (length face.edges) i l) in
    let v = meeting_by_cramers_rule p q r in
    let w : pos 0 <ℤ v.w = subst (λ (x : Coordinates). pos 0 <ℤ x.w) e (h.polygon.turns_left i (let n = length-map face.edges (plane_named planes) in omega arith)) in
    subst (λ (x : Coordinates). IfSome known (λ s. s ≡ side_of (value m x))) (sym e)
    (one_of ends begins known (λ s. s ≡ side_of (value m v)) choose
    (some_on q m ends v w (cramer_on_second p q r) b) (some_on r m begins v w (cramer_on_third p q r) c))

-- by the plane of the face, which has all its points on one side
or_itself : (x : Bool) → (x || x) ≡ x
or_itself true = refl
or_itself false = refl

all_of : (p : Coordinates → Bool) (f : ℕ → Coordinates) (b : Bool) (n : ℕ) → ((i : ℕ) → i < n + 1 → p (f i) ≡ b) → some_of p (map f (indices_below (n + 1))) ≡ b
all_of p f b zero h = sym (some_step p f 0 false b refl (sym (h 0 (omega arith))))
all_of p f b (suc n) h =
    let before = ap (λ (k : ℕ). some_of p (map f (indices_below k))) (sym (add-one n)) ∙ all_of p f b n (λ i l. h i (omega arith)) in
    sym (some_step p f (suc n) b b (sym before) (sym (h (suc n) (omega arith)))) ∙ or_itself b

pub all_of_class : (planes : List Coefficients) (face : Face) (m : Coefficients) (side : Side) → IsFaceOver planes face → HasAllOn (plane_named planes face.plane) m side →
    class_by_sides (is_side_behind side) (is_side_ahead side) ≡ class_of (outline_of planes face) m
all_of_class planes face m side h k =
    let s : Outline = outline_of planes face in
    let n = edge_count s - 1 in
    let count : n + 1 ≡ edge_count s = omega (arith, h.polygon.three) in
    let at : (i : ℕ) → i < n + 1 → side ≡ side_of (value m (corner s i)) = λ i l.
    k (corner s i) (h.polygon.turns_left i (omega arith)) (cramer_on_first s.plane (edge_plane s i) (edge_plane s (index_after (edge_count s) i))) in
    ap₂ class_by_sides
    (sym (all_of (is_behind m) (corner s) (is_side_behind side) n (λ i l. sym (ap is_side_behind (at i l) ∙ side_behind (value m (corner s i))))) ∙ ap (λ (j : ℕ). some_of (is_behind m) (map (corner s) (indices_below j))) count)
    (sym (all_of (is_ahead m) (corner s) (is_side_ahead side) n (λ i l. sym (ap is_side_ahead (at i l) ∙ side_ahead (value m (corner s i))))) ∙ ap (λ (j : ℕ). some_of (is_ahead m) (map (corner s) (indices_below j))) count)

pub one_side : (side : Side) → class_by_sides (is_side_behind side) (is_side_ahead side) ≡ Across → ⊥
one_side Behind e = cc
one_side On e = cc
one_side Ahead e = cc

-- ---- four corners
-- by the edge that ends at a corner, and by the one that begins there
pub ends_at : (planes : List Coefficients) (face : Face) (m : Coefficients) (i : ℕ) (side : Side) → IsFaceOver planes face → i < length face.edges →
    HasAllOn (plane_named planes (get_or face.edges i 0)) m side → IsSideAt planes face m i side
ends_at planes face m i side f l h = known_at planes face m i (Some side) None (Some side) f l h tt (inl refl)

pub begins_at : (planes : List Coefficients) (face : Face) (m : Coefficients) (i j : ℕ) (side : Side) → IsFaceOver planes face → i < length face.edges →
    index_after (length face.edges) i ≡ j → HasAllOn (plane_named planes (get_or face.edges j 0)) m side → IsSideAt planes face m i side
begins_at planes face m i j side f l e h =
    known_at planes face m i None (Some side) (Some side) f l tt (subst (λ (k : ℕ). HasAllOn (plane_named planes (get_or face.edges k 0)) m side) (sym e) h) (inr refl)

or_four : (a b c d w x y z : Bool) → a ≡ w → b ≡ x → c ≡ y → d ≡ z → (a || (b || (c || d))) ≡ (w || (x || (y || (z || false))))
or_four a b c d w x y z p q r s = ap₂ (λ (u v : Bool). u || v) p (ap₂ (λ (u v : Bool). u || v) q (ap₂ (λ (u v : Bool). u || v) r (s ∙ sym (or_last z))))

four_list : {A : Type 0} (a b c d w x y z : A) → a ≡ w → b ≡ x → c ≡ y → d ≡ z → a ∷ b ∷ c ∷ d ∷ [] ≡ w ∷ x ∷ y ∷ z ∷ []
four_list a b c d w x y z p q r s = λ i. p i ∷ q i ∷ r i ∷ s i ∷ []

pub four_end : (planes : List Coefficients) (face : Face) (m : Coefficients) (a b c d : Side) (edge_count : CornerSides) → length face.edges ≡ 4 →
    IsSideAt planes face m 0 a → IsSideAt planes face m 1 b → IsSideAt planes face m 2 c → IsSideAt planes face m 3 d →
    AreFourSides a b c d edge_count → AreSidesWhereAcross (outline_of planes face) m edge_count
four_end planes face m a b c d found four x y z w h =
    let s : Outline = outline_of planes face in
    let n : edge_count s ≡ 4 = length-map face.edges (plane_named planes) ∙ four in
    let at : ℕ → Coordinates = corner s in
    let behind = or_four _ _ _ _ _ _ _ _ (ap is_side_behind x ∙ side_behind (value m (at 0))) (ap is_side_behind y ∙ side_behind (value m (at 1)))
    (ap is_side_behind z ∙ side_behind (value m (at 2))) (ap is_side_behind w ∙ side_behind (value m (at 3))) in
    let ahead = or_four _ _ _ _ _ _ _ _ (ap is_side_ahead x ∙ side_ahead (value m (at 0))) (ap is_side_ahead y ∙ side_ahead (value m (at 1)))
    (ap is_side_ahead z ∙ side_ahead (value m (at 2))) (ap is_side_ahead w ∙ side_ahead (value m (at 3))) in
    record {
      class = h.class ∙ ap₂ class_by_sides
          (behind ∙ ap (λ (k : ℕ). some_of (is_behind m) (map at (indices_below k))) (sym n))
          (ahead ∙ ap (λ (k : ℕ). some_of (is_ahead m) (map at (indices_below k))) (sym n));
      corners = λ across. h.corners across
          ∙ four_list _ _ _ _ _ _ _ _ (side_pair m (at 0) a _ _ x refl refl) (side_pair m (at 1) b _ _ y refl refl) (side_pair m (at 2) c _ _ z refl refl) (side_pair m (at 3) d _ _ w refl refl)
          ∙ ap (λ (k : ℕ). map (side_against m) (map at (indices_below k))) (sym n);
    }

-- the edge that begins at a corner ends at the next one
pub after_next : (k i : ℕ) → i + 1 < k → index_after k i ≡ i + 1
after_next k i h = elim (eqb (suc i) k) as (λ b. eqb (suc i) k ≡ b → cond b 0 (suc i) ≡ i + 1) [
  | true ↦ λ e. absurd (let n : suc i ≡ k = eqb-true (suc i) k e in omega arith)
  | false ↦ λ e. omega arith
] refl

-- and that of the last one is the first
pub after_last : (k i : ℕ) → i + 1 ≡ k → index_after k i ≡ 0
after_last k i h = elim (eqb (suc i) k) as (λ b. eqb (suc i) k ≡ b → cond b 0 (suc i) ≡ 0) [
  | true ↦ λ e. refl
  | false ↦ λ e. absurd (let m : suc i ≢ k = eqb-false (suc i) k e in m (omega arith))
] refl
