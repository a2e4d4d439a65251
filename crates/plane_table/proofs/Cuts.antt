-- The edges of the parts of a face.
use Rattle.std.proofs.Common.{◌≡◌, ℕ, zero, suc, ◌+◌, ◌<◌, Bool, true, false, List, [], ◌∷◌, ◌++◌, length, get_or, map, flat_map, refl, sym, ap, ap₂, ◌∙◌, subst, arith, add-one, append-nil, ℤ, pos, negsuc, neg_ℤ, int_lt}
use Rattle.std.specs.List.{All}
use Rattle.std.proofs.lemmas.List.{map-append, length-map}
use Rattle.std.proofs.lemmas.Int.{ints}
use Rattle.std.proofs.lemmas.List.Concat.{flat_map-append}
use Rattle.std.proofs.lemmas.List.Elements.{All-append, All-nil, All-cons}
use Rattle.plane_predicate.specs.Space.{Coefficients, Coordinates, value, opposite_of}
use Rattle.plane_predicate.proofs.lemmas.Vectors.{value-opposite}
use Rattle.plane_polygon.specs.Polygons.{Outline, corner, edge_count, missing_plane, IsPolygon}
use Rattle.plane_polygon.specs.Parts.{index_before, edges_kept_at, edges_kept_by, corners, is_behind, is_ahead, part_behind, part_ahead}
use Rattle.plane_table.specs.declared.faces.Face.{Face}
use Rattle.plane_table.specs.declared.sorting.CornerSide.{CornerSide}
use Rattle.plane_table.specs.Tables.{plane_named, NamesPlaneIn}
use Rattle.plane_table.specs.Faces.{outline_of, side_against, IsFaceOver}
use Rattle.plane_table.specs.declared.cutting.Half.{Half}
use Rattle.plane_table.specs.declared.cutting.Half.TheVariants.{Behind, Ahead}
use Rattle.plane_table.specs.Cuts.{is_strictly_in_half, numbers_kept_at, kept_numbers, on_the_plane, part_in, side_number}
use Rattle.plane_table.proofs.Numbers.{get_map, named_opposite, opposite_in}
use Rattle.plane_table.proofs.lemmas.Corners.{get_up_to, length-indices_below, sides_map}
use Rattle.plane_predicate.specs.Indices.{indices_below}

-- ---- lists over 0, 1, .. below n
pub flat_up_to : {A : Type 0} (f : ℕ → List A) (n : ℕ) → flat_map f (indices_below (suc n)) ≡ flat_map f (indices_below n) ++ f n
flat_up_to f n = flat_map-append f (indices_below n) (n ∷ []) ∙ ap (λ (l : List _). flat_map f (indices_below n) ++ l) (append-nil (f n))

-- one more number
pub flat_step : {A : Type 0} (f : ℕ → List A) (n : ℕ) (found more : List A) → found ≡ flat_map f (indices_below n) → more ≡ f n → found ++ more ≡ flat_map f (indices_below (n + 1))
flat_step f n found more e h =
    ap₂ (λ (l : List _) (k : List _). l ++ k) e h
    ∙ sym (flat_up_to f n)
    ∙ ap (λ (k : ℕ). flat_map f (indices_below k)) (sym (add-one n))

-- the images of a list over 0, 1, .. below n
map_flat : {A B : Type 0} (f : A → B) (g : ℕ → List A) (h : ℕ → List B) (n : ℕ) → ((i : ℕ) → i < n → map f (g i) ≡ h i) → map f (flat_map g (indices_below n)) ≡ flat_map h (indices_below n)
map_flat f g h zero e = refl
map_flat f g h (suc n) e =
    ap (map f) (flat_up_to g n)
    ∙ map-append f (flat_map g (indices_below n)) (g n)
    ∙ ap₂ (λ (l k : List _). l ++ k) (map_flat f g h n (λ i l. e i (omega arith))) (e n (omega arith))
    ∙ sym (flat_up_to h n)

all_flat : {A : Type 0} (P : A → Type 0) (g : ℕ → List A) (n : ℕ) → ((i : ℕ) → i < n → All P (g i)) → All P (flat_map g (indices_below n))
all_flat P g zero e = All-nil P
all_flat P g (suc n) e =
    subst (All P) (sym (flat_up_to g n))
    (All-append P (flat_map g (indices_below n)) (g n) (all_flat P g n (λ i l. e i (omega arith))) (e n (omega arith)))

-- ---- the opposite plane
less_opposite : (x y : ℤ) → y ≡ neg_ℤ x → int_lt y (pos 0) ≡ int_lt (pos 0) x
less_opposite (pos zero) y e = ap (λ (z : ℤ). int_lt z (pos 0)) e
less_opposite (pos (suc n)) y e = ap (λ (z : ℤ). int_lt z (pos 0)) e ∙ grind (arith, ints)
less_opposite (negsuc n) y e = ap (λ (z : ℤ). int_lt z (pos 0)) e ∙ grind (arith, ints)

behind_opposite : (m : Coefficients) (p : Coordinates) → is_behind (opposite_of m) p ≡ is_ahead m p
behind_opposite m p = less_opposite (value m p) (value (opposite_of m) p) (value-opposite m p)

-- ---- what an edge gives
kept_named : (f : ℕ → Coefficients) (b c : Bool) (e m : ℕ) → map f (kept_numbers b c e m) ≡ edges_kept_by b c (f e) (f m)
kept_named f true true e m = refl
kept_named f true false e m = refl
kept_named f false true e m = refl
kept_named f false false e m = refl

all_kept : (P : ℕ → Type 0) (b c : Bool) (e m : ℕ) → P e → P m → All P (kept_numbers b c e m)
all_kept P true true e m h k = All-cons P e [] h (All-nil P)
all_kept P true false e m h k = All-cons P e (m ∷ []) h (All-cons P m [] k (All-nil P))
all_kept P false true e m h k = All-cons P e [] h (All-nil P)
all_kept P false false e m h k = All-nil P

-- the side of corner i in the list of sides
side_in : (s : Outline) (m : Coefficients) (found : List CornerSide) (i : ℕ) → found ≡ map (side_against m) (corners s) → i < edge_count s → get_or found i on_the_plane ≡ side_against m (corner s i)
side_in s m found i e h =
    ap (λ (l : List CornerSide). get_or l i on_the_plane) (e ∙ sides_map s m)
    ∙ get_map (λ j. side_against m (corner s j)) (indices_below (edge_count s)) i 0 on_the_plane (let n = length-indices_below (edge_count s) in omega arith)
    ∙ ap (λ (j : ℕ). side_against m (corner s j)) (get_up_to (edge_count s) i 0 h)

before_in : (n i : ℕ) → i < n → index_before n i < n
before_in n zero h = omega arith
before_in n (suc i) h = omega arith

-- ---- the half spaces
-- the plane that has the half space behind it
abbrev half_plane : Half → Coefficients → Coefficients
half_plane Behind m = m
half_plane Ahead m = opposite_of m

within_is : (half : Half) (m : Coefficients) (p : Coordinates) → is_strictly_in_half half (side_against m p) ≡ is_behind (half_plane half m) p
within_is Behind m p = refl
within_is Ahead m p = sym (behind_opposite m p)

named_side : (half : Half) (planes : List Coefficients) (m : ℕ) → plane_named planes (side_number half m) ≡ half_plane half (plane_named planes m)
named_side Behind planes m = refl
named_side Ahead planes m = named_opposite planes m

side_in_range : (half : Half) (planes : List Coefficients) (m : ℕ) → NamesPlaneIn planes m → NamesPlaneIn planes (side_number half m)
side_in_range Behind planes m h = h
side_in_range Ahead planes m h = opposite_in planes m h

part_behind_it : (half : Half) (s : Outline) (m : Coefficients) → part_in half s m ≡ part_behind s (half_plane half m)
part_behind_it Behind s m = refl
part_behind_it Ahead s m = refl

-- ---- the part
part_is : (half : Half) (planes : List Coefficients) (face : Face) (m : ℕ) (found : List CornerSide) →
    found ≡ map (side_against (plane_named planes m)) (corners (outline_of planes face)) →
    map (plane_named planes) (flat_map (numbers_kept_at half face.edges m found) (indices_below (length face.edges))) ≡ (part_behind (outline_of planes face) (half_plane half (plane_named planes m))).edges
part_is half planes face m found e =
    let s : Outline = outline_of planes face in
    let n = length-map face.edges (plane_named planes) in
    let q = plane_named planes m in
    let t = half_plane half q in
    map_flat (plane_named planes) (numbers_kept_at half face.edges m found) (edges_kept_at s t) (length face.edges) (λ i l.
    kept_named (plane_named planes) (is_strictly_in_half half (get_or found (index_before (length face.edges) i) on_the_plane)) (is_strictly_in_half half (get_or found i on_the_plane)) (get_or face.edges i 0) (side_number half m)
    ∙ ap (edges_kept_by (is_strictly_in_half half (get_or found (index_before (length face.edges) i) on_the_plane)) (is_strictly_in_half half (get_or found i on_the_plane)) (plane_named planes (get_or face.edges i 0))) (named_side half planes m)
    ∙ ap₂ (λ (b c : Bool). edges_kept_by b c (plane_named planes (get_or face.edges i 0)) t)
    (ap (λ (k : ℕ). is_strictly_in_half half (get_or found (index_before k i) on_the_plane)) (sym n) ∙ ap (is_strictly_in_half half) (side_in s q found (index_before (edge_count s) i) e (before_in (edge_count s) i (omega arith))) ∙ within_is half q (corner s (index_before (edge_count s) i)))
    (ap (is_strictly_in_half half) (side_in s q found i e (omega arith)) ∙ within_is half q (corner s i))
    ∙ ap (λ (p : Coefficients). edges_kept_by (is_behind t (corner s (index_before (edge_count s) i))) (is_behind t (corner s i)) p t) (sym (get_map (plane_named planes) face.edges i 0 missing_plane l)))
    ∙ ap (λ (k : ℕ). flat_map (edges_kept_at s t) (indices_below k)) (sym n)

numbers_in : (half : Half) (planes : List Coefficients) (edges : List ℕ) (m : ℕ) (found : List CornerSide) → All (NamesPlaneIn planes) edges → NamesPlaneIn planes m →
    All (NamesPlaneIn planes) (flat_map (numbers_kept_at half edges m found) (indices_below (length edges)))
numbers_in half planes edges m found h k =
    all_flat (NamesPlaneIn planes) (numbers_kept_at half edges m found) (length edges) (λ i l.
    all_kept (NamesPlaneIn planes) (is_strictly_in_half half (get_or found (index_before (length edges) i) on_the_plane)) (is_strictly_in_half half (get_or found i on_the_plane)) (get_or edges i 0) (side_number half m) (h i 0 l) (side_in_range half planes m k))

-- ---- the parts as faces
pub same_outline : (m n : Coefficients) (ms ns : List Coefficients) → m ≡ n → ms ≡ ns → ◌≡◌ {A = Outline} (record { plane = m; edges = ms }) (record { plane = n; edges = ns })
same_outline m n ms ns e h = λ i. record { plane = e i; edges = h i }

pub sides_count : (planes : List Coefficients) (face : Face) (m : Coefficients) (found : List CornerSide) →
    found ≡ map (side_against m) (corners (outline_of planes face)) → length found ≡ length face.edges
sides_count planes face m found e =
    let s : Outline = outline_of planes face in
    ap length (e ∙ sides_map s m) ∙ length-map (indices_below (edge_count s)) (λ i. side_against m (corner s i)) ∙ length-indices_below (edge_count s) ∙ length-map face.edges (plane_named planes)

pub outline_in : (half : Half) (planes : List Coefficients) (face : Face) (m : ℕ) (found : List CornerSide) (edges : List ℕ) →
    found ≡ map (side_against (plane_named planes m)) (corners (outline_of planes face)) →
    edges ≡ flat_map (numbers_kept_at half face.edges m found) (indices_below (length face.edges)) →
    outline_of planes (record { plane = face.plane; edges = edges }) ≡ part_in half (outline_of planes face) (plane_named planes m)
outline_in half planes face m found edges e k =
    let f = ap (map (plane_named planes)) k ∙ part_is half planes face m found e in
    (λ i. record { plane = plane_named planes face.plane; edges = f i }) ∙ sym (part_behind_it half (outline_of planes face) (plane_named planes m))

pub polygon_in : (half : Half) (s : Outline) (m : Coefficients) → IsPolygon (part_behind s m) → IsPolygon (part_ahead s m) → IsPolygon (part_in half s m)
polygon_in Behind s m b a = b
polygon_in Ahead s m b a = a

pub face_in : (half : Half) (planes : List Coefficients) (face : Face) (m : ℕ) (found : List CornerSide) (edges : List ℕ) →
    IsFaceOver planes face → NamesPlaneIn planes m →
    found ≡ map (side_against (plane_named planes m)) (corners (outline_of planes face)) →
    edges ≡ flat_map (numbers_kept_at half face.edges m found) (indices_below (length face.edges)) →
    IsPolygon (part_in half (outline_of planes face) (plane_named planes m)) →
    IsFaceOver planes (record { plane = face.plane; edges = edges })
face_in half planes face m found edges h i e k p = record {
  plane = h.plane;
  edges = subst (All (NamesPlaneIn planes)) (sym k) (numbers_in half planes face.edges m found h.edges i);
  polygon = subst IsPolygon (sym (outline_in half planes face m found edges e k)) p;
}
