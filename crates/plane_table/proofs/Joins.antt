-- Planes of one list found in another.
use Rattle.std.proofs.Common.{◌≡◌, ◌≢◌, ℕ, ◌+◌, ◌*◌, ◌/◌, ◌<◌, ◌≤◌, Bool, true, false, List, [], ◌∷◌, ◌++◌, length, get_or, set, map, refl, sym, ap, ap₂, ◌∙◌, subst, inl, inr, arith, cond, eqb, true≢false, Result, Ok, Err}
use Rattle.std.specs.Result.{IfOk}
use Rattle.std.specs.List.{All}
use Rattle.std.proofs.lemmas.Bool.{cases_lt, cases_eq}
use Rattle.std.proofs.lemmas.List.{get_or_append_left, get_or_push, length_push, length-map, get_or_read, same_lists, get_or_default, get_or-set_same, get_or-set_other, map_push}
use Rattle.std.proofs.lemmas.List.Elements.{All-append, All-head, All-tail, All-cons, All-nil}
use Rattle.plane_predicate.specs.Space.{Coefficients, opposite_of}
use Rattle.plane_polygon.specs.Polygons.{missing_plane, Outline, IsPolygon}
use Rattle.plane_table.specs.declared.faces.Face.{Face}
use Rattle.plane_table.specs.Tables.{plane_named, oriented_by_number, opposite_number, AreApart, HasNoTwoAlike, NamesPlaneIn}
use Rattle.plane_table.specs.Faces.{outline_of, IsFaceOver}
use Rattle.plane_table.specs.Joins.{Finds, AreFirstNumbersOf, AreNumbersOf, AreNumbersOfUsed, KeepsNumbers, HasNumberOver, AreNumbersFound, IsPlaneKept, AreMarkedUsed, number_among}
use Rattle.plane_table.proofs.Numbers.{even, odd, parity, get_map, named_more, named_last, named_opposite, opposite_in}
use Rattle.plane_table.proofs.lemmas.Orders.{apart_back}
use Rattle.plane_table.proofs.Cuts.{same_outline}

-- ---- lists that grow
pub keeps_itself : (planes : List Coefficients) → KeepsNumbers planes planes
keeps_itself planes = record { in_range = λ n h. h; same = λ n h. refl }

pub keeps_more : (planes : List Coefficients) (m : Coefficients) → KeepsNumbers planes (planes ++ m ∷ [])
keeps_more planes m = record { in_range = λ n h. (let e = length_push planes m in omega arith); same = λ n h. named_more planes m n h }

pub keeps_on : (a b c : List Coefficients) → KeepsNumbers a b → KeepsNumbers b c → KeepsNumbers a c
keeps_on a b c h k = record {
  in_range = λ n l. k.in_range n (h.in_range n l);
  same = λ n l. k.same n (h.in_range n l) ∙ h.same n l;
}

pub last_in : (planes : List Coefficients) (m : Coefficients) → NamesPlaneIn (planes ++ m ∷ []) (2 * length planes)
last_in planes m = let e = length_push planes m in omega arith

pub apart_more : (planes : List Coefficients) (m : Coefficients) → HasNoTwoAlike planes → ((i : ℕ) → i < length planes → AreApart (get_or planes i missing_plane) m) → HasNoTwoAlike (planes ++ m ∷ [])
apart_more planes m h k =
    let n = length_push planes m in
    let old = λ (i : ℕ) (l : i < length planes). get_or_append_left planes (m ∷ []) missing_plane i l in
    let new = λ (i : ℕ) (e : length planes ≡ i). get_or_push planes m missing_plane i e in
    record {
      apart = λ i j x y d. elim (cases_lt i (length planes)) [
        | inl a ↦ elim (cases_lt j (length planes)) [
          | inl b ↦ (let p = old i a in let q = old j b in rw (p, q) (h.apart i j a b d))
          | inr b ↦ (let e : length planes ≡ j = omega arith in let p = old i a in let q = new j e in rw (p, q) (k i a))
        ]
        | inr a ↦ elim (cases_lt j (length planes)) [
          | inl b ↦ (let e : length planes ≡ i = omega arith in let p = new i e in let q = old j b in rw (p, q) (apart_back (get_or planes j missing_plane) m (k j b)))
          | inr b ↦ absurd (d (omega arith))
        ]
      ];
    }

-- ---- a plane at some index
pub found_at : (planes : List Coefficients) (i n : ℕ) (other plane : Coefficients) → i < length planes → other ≡ get_or planes i other → n / 2 ≡ i → plane ≡ oriented_by_number n other →
    NamesPlaneIn planes n × (plane_named planes n ≡ plane)
found_at planes i n other plane h r e t =
    let k : n / 2 < length planes = omega arith in
    (omega arith, ap (λ (j : ℕ). oriented_by_number n (get_or planes j missing_plane)) e ∙ ap (oriented_by_number n) (sym (get_or_read planes i other h r missing_plane)) ∙ sym t)

pub numbered_old : (plane : Coefficients) (planes : List Coefficients) (n : ℕ) → HasNoTwoAlike planes → NamesPlaneIn planes n × (plane_named planes n ≡ plane) → HasNumberOver plane planes planes n
numbered_old plane planes n h k = record { apart = h; keeps = keeps_itself planes; in_range = k.0; same = k.1 }

pub numbered_new : (plane : Coefficients) (planes new : List Coefficients) (n : ℕ) → HasNoTwoAlike planes → ((i : ℕ) → i < length planes → AreApart (get_or planes i missing_plane) plane) →
    new ≡ planes ++ plane ∷ [] → n ≡ 2 * length planes → HasNumberOver plane planes new n
numbered_new plane planes new n h k e f =
    let last : HasNumberOver plane planes (planes ++ plane ∷ []) (2 * length planes) = record {
      apart = apart_more planes plane h k;
      keeps = keeps_more planes plane;
      in_range = last_in planes plane;
      same = named_last planes plane;
    } in
    rw (e, f) last

-- ---- one more number
pub first_none : (planes from : List Coefficients) → AreFirstNumbersOf planes [] from
first_none planes from = record { count = omega arith; each = λ k h. absurd (omega arith) }

pub finds_on : (old new : List Coefficients) (numbers : List ℕ) (from : List Coefficients) (k : ℕ) → KeepsNumbers old new → Finds old numbers from k → Finds new numbers from k
finds_on old new numbers from k h f = record {
  in_range = h.in_range (get_or numbers k 0) f.in_range;
  same = h.same (get_or numbers k 0) f.in_range ∙ f.same;
}

pub first_on : (old new : List Coefficients) (numbers : List ℕ) (from : List Coefficients) → KeepsNumbers old new → AreFirstNumbersOf old numbers from → AreFirstNumbersOf new numbers from
first_on old new numbers from h f = record { count = f.count; each = λ k l. finds_on old new numbers from k h (f.each k l) }

pub numbers_on : (old new : List Coefficients) (numbers : List ℕ) (from : List Coefficients) → KeepsNumbers old new → AreNumbersOf old numbers from → AreNumbersOf new numbers from
numbers_on old new numbers from h f = record { count = f.count; each = λ k l. finds_on old new numbers from k h (f.each k l) }

pub finds_more : (planes : List Coefficients) (numbers : List ℕ) (n : ℕ) (from : List Coefficients) (k : ℕ) → k < length numbers → Finds planes numbers from k → Finds planes (numbers ++ n ∷ []) from k
finds_more planes numbers n from k l f =
    let e = get_or_append_left numbers (n ∷ []) 0 k l in
    record { in_range = rw e f.in_range; same = ap (plane_named planes) e ∙ f.same }

pub first_more : (old new : List Coefficients) (numbers : List ℕ) (from : List Coefficients) (n : ℕ) → AreFirstNumbersOf old numbers from → KeepsNumbers old new →
    length numbers < length from → NamesPlaneIn new n → plane_named new n ≡ get_or from (length numbers) missing_plane → AreFirstNumbersOf new (numbers ++ n ∷ []) from
first_more old new numbers from n f h l i s =
    let e = length_push numbers n in
    record {
      count = omega arith;
      each = λ k x. elim (cases_lt k (length numbers)) [
        | inl a ↦ finds_more new numbers n from k a (finds_on old new numbers from k h (f.each k a))
        | inr a ↦ (let p : length numbers ≡ k = omega arith in let q = get_or_push numbers n 0 k p in
            record { in_range = rw q i; same = ap (plane_named new) q ∙ s ∙ ap (λ (j : ℕ). get_or from j missing_plane) p })
      ];
    }

pub first_all : (planes : List Coefficients) (numbers : List ℕ) (from : List Coefficients) → AreFirstNumbersOf planes numbers from → length from ≤ length numbers → AreNumbersOf planes numbers from
first_all planes numbers from f l =
    let c = f.count in
    record { count = omega arith; each = λ k x. f.each k (omega arith) }

-- ---- the walk of two lists
pub put_first : (planes new : List Coefficients) (numbers more : List ℕ) (from : List Coefficients) (m : Coefficients) (n : ℕ) → AreFirstNumbersOf planes numbers from → length numbers < length from →
    m ≡ get_or from (length numbers) m → new ≡ planes ++ m ∷ [] → n ≡ 2 * length planes → more ≡ numbers ++ n ∷ [] → AreFirstNumbersOf new more from
put_first planes new numbers more from m n f l r e k p =
    let last = first_more planes (planes ++ m ∷ []) numbers from (2 * length planes) f (keeps_more planes m) l (last_in planes m) (named_last planes m ∙ get_or_read from (length numbers) m l r missing_plane) in
    rw (p, e, k) last

pub alike_first : (planes : List Coefficients) (numbers more : List ℕ) (from : List Coefficients) (m other : Coefficients) (i n : ℕ) → AreFirstNumbersOf planes numbers from → length numbers < length from →
    m ≡ get_or from (length numbers) m → i < length planes → other ≡ get_or planes i other → n / 2 ≡ i → m ≡ oriented_by_number n other → more ≡ numbers ++ n ∷ [] → AreFirstNumbersOf planes more from
alike_first planes numbers more from m other i n f l r h o e t p =
    let k = found_at planes i n other m h o e t in
    let last = first_more planes planes numbers from n f (keeps_itself planes) l k.0 (k.1 ∙ get_or_read from (length numbers) m l r missing_plane) in
    rw p last

-- ---- a polygon's planes
pub numbers_map : (planes : List Coefficients) (numbers : List ℕ) (from : List Coefficients) → AreNumbersOf planes numbers from → map (plane_named planes) numbers ≡ from
numbers_map planes numbers from f =
    let c = f.count in
    let n = length-map numbers (plane_named planes) in
    same_lists (map (plane_named planes) numbers) from (n ∙ c) (λ k d l.
    get_map (plane_named planes) numbers k 0 d (omega arith) ∙ (f.each k (omega arith)).same ∙ get_or_default from k missing_plane d (omega arith))

pub numbers_in : (planes : List Coefficients) (numbers : List ℕ) (from : List Coefficients) → AreNumbersOf planes numbers from → All (NamesPlaneIn planes) numbers
numbers_in planes numbers from f k d l =
    let c = f.count in
    subst (NamesPlaneIn planes) (get_or_default numbers k 0 d l) (f.each k (omega arith)).in_range

pub own_outline : (s : Outline) (first planes : List Coefficients) (n : ℕ) (numbers es : List ℕ) (m : Coefficients) (ms : List Coefficients) →
    NamesPlaneIn first n → plane_named first n ≡ m → m ≡ s.plane → KeepsNumbers first planes → AreNumbersOf planes numbers ms → ms ≡ s.edges → es ≡ numbers →
    outline_of planes (record { plane = n; edges = es }) ≡ s
own_outline s first planes n numbers es m ms i e f k a g h =
    same_outline (plane_named planes n) s.plane (map (plane_named planes) es) s.edges
    (k.same n i ∙ e ∙ f)
    (ap (map (plane_named planes)) h ∙ numbers_map planes numbers ms a ∙ g)

pub own_face : (s : Outline) (first planes : List Coefficients) (n : ℕ) (numbers es : List ℕ) (m : Coefficients) (ms : List Coefficients) →
    NamesPlaneIn first n → plane_named first n ≡ m → m ≡ s.plane → KeepsNumbers first planes → AreNumbersOf planes numbers ms → ms ≡ s.edges → es ≡ numbers → IsPolygon s →
    IsFaceOver planes (record { plane = n; edges = es })
own_face s first planes n numbers es m ms i e f k a g h p = record {
  plane = k.in_range n i;
  edges = subst (All (NamesPlaneIn planes)) (sym h) (numbers_in planes numbers ms a);
  polygon = subst IsPolygon (sym (own_outline s first planes n numbers es m ms i e f k a g h)) p;
}

-- ---- faces over a list that grew
pub numbers_kept : (old new : List Coefficients) (numbers : List ℕ) → KeepsNumbers old new → All (NamesPlaneIn old) numbers →
    All (NamesPlaneIn new) numbers × (map (plane_named new) numbers ≡ map (plane_named old) numbers)
numbers_kept old new [] k h = (All-nil (NamesPlaneIn new), refl)
numbers_kept old new (n ∷ numbers) k h =
    let first = All-head (NamesPlaneIn old) n numbers h in
    let rest = numbers_kept old new numbers k (All-tail (NamesPlaneIn old) n numbers h) in
    (All-cons (NamesPlaneIn new) n numbers (k.in_range n first) rest.0, ap₂ (λ (m : Coefficients) (ms : List Coefficients). m ∷ ms) (k.same n first) rest.1)

pub face_kept : (old new : List Coefficients) (face : Face) → KeepsNumbers old new → IsFaceOver old face →
    IsFaceOver new face × (outline_of new face ≡ outline_of old face)
face_kept old new face k h =
    let edges = numbers_kept old new face.edges k h.edges in
    let same = same_outline (plane_named new face.plane) (plane_named old face.plane) (map (plane_named new) face.edges) (map (plane_named old) face.edges) (k.same face.plane h.plane) edges.1 in
    (record { plane = k.in_range face.plane h.plane; edges = edges.0; polygon = subst IsPolygon (sym same) h.polygon }, same)

pub faces_kept : (old new : List Coefficients) (faces : List Face) → KeepsNumbers old new → All (IsFaceOver old) faces →
    All (IsFaceOver new) faces × (map (outline_of new) faces ≡ map (outline_of old) faces)
faces_kept old new [] k h = (All-nil (IsFaceOver new), refl)
faces_kept old new (face ∷ faces) k h =
    let first = face_kept old new face k (All-head (IsFaceOver old) face faces h) in
    let rest = faces_kept old new faces k (All-tail (IsFaceOver old) face faces h) in
    (All-cons (IsFaceOver new) face faces first.0 rest.0, ap₂ (λ (s : Outline) (ss : List Outline). s ∷ ss) first.1 rest.1)

-- one face more over the list to which its planes were added
pub faces_more : (old new : List Coefficients) (faces more : List Face) (face : Face) (s : Outline) (outlines : List Outline) → KeepsNumbers old new → more ≡ faces ++ face ∷ [] →
    All (IsFaceOver old) faces → map (outline_of old) faces ≡ outlines → IsFaceOver new face → outline_of new face ≡ s →
    All (IsFaceOver new) more × (map (outline_of new) more ≡ outlines ++ s ∷ [])
faces_more old new faces more face s outlines k e h o f p =
    let kept = faces_kept old new faces k h in
    rw e (
      All-append (IsFaceOver new) faces (face ∷ []) kept.0 (All-cons (IsFaceOver new) face [] f (All-nil (IsFaceOver new))),
      map_push (outline_of new) faces face ∙ ap₂ (λ (ss : List Outline) (t : Outline). ss ++ t ∷ []) (kept.1 ∙ o) p,
    )

-- ---- two clauses on a result
pub both_ok : {X Y : Type 0} (r : Result X Y) (P Q R : X → Type 0) → ((x : X) → P x → Q x → R x) → IfOk r P → IfOk r Q → IfOk r R
both_ok (Ok x) P Q R f p q = f x p q
both_ok (Err y) P Q R f p q = tt

-- ---- faces over another list
pub among_found : (planes : List Coefficients) (numbers : List ℕ) (from : List Coefficients) (n : ℕ) → Finds planes numbers from (n / 2) →
    NamesPlaneIn planes (number_among numbers n) × (plane_named planes (number_among numbers n) ≡ plane_named from n)
unfolding number_among
among_found planes numbers from n f = elim (parity n) [
  | inl e ↦ (let k : number_among numbers n ≡ get_or numbers (n / 2) 0 = ap (λ (j : ℕ). cond (eqb j 0) (get_or numbers (n / 2) 0) (opposite_number (get_or numbers (n / 2) 0))) e in
      (rw k f.in_range, ap (plane_named planes) k ∙ f.same ∙ sym (even n e (get_or from (n / 2) missing_plane))))
  | inr e ↦ (let k : number_among numbers n ≡ opposite_number (get_or numbers (n / 2) 0) = ap (λ (j : ℕ). cond (eqb j 0) (get_or numbers (n / 2) 0) (opposite_number (get_or numbers (n / 2) 0))) e in (
    rw k (opposite_in planes (get_or numbers (n / 2) 0) f.in_range),
    ap (plane_named planes) k ∙ named_opposite planes (get_or numbers (n / 2) 0) ∙ ap opposite_of f.same ∙ sym (odd n e (get_or from (n / 2) missing_plane)),
  ))
]

among_map : (planes : List Coefficients) (numbers : List ℕ) (from : List Coefficients) (es : List ℕ) → All (λ n. Finds planes numbers from (n / 2)) es →
    map (plane_named planes) (map (number_among numbers) es) ≡ map (plane_named from) es
among_map planes numbers from [] h = refl
among_map planes numbers from (e ∷ es) h =
    ap₂ (λ (x : Coefficients) (xs : List Coefficients). x ∷ xs)
    (among_found planes numbers from e (All-head (λ n. Finds planes numbers from (n / 2)) e es h)).1
    (among_map planes numbers from es (All-tail (λ n. Finds planes numbers from (n / 2)) e es h))

among_in : (planes : List Coefficients) (numbers : List ℕ) (from : List Coefficients) (es : List ℕ) → All (λ n. Finds planes numbers from (n / 2)) es →
    All (NamesPlaneIn planes) (map (number_among numbers) es)
among_in planes numbers from [] h = All-nil (NamesPlaneIn planes)
among_in planes numbers from (e ∷ es) h =
    All-cons (NamesPlaneIn planes) (number_among numbers e) (map (number_among numbers) es)
    (among_found planes numbers from e (All-head (λ n. Finds planes numbers from (n / 2)) e es h)).0
    (among_in planes numbers from es (All-tail (λ n. Finds planes numbers from (n / 2)) e es h))

pub outline_among : (planes : List Coefficients) (numbers : List ℕ) (from : List Coefficients) (face : Face) (p : ℕ) (es : List ℕ) → p ≡ number_among numbers face.plane → es ≡ map (number_among numbers) face.edges →
    AreNumbersFound planes numbers from face → outline_of planes (record { plane = p; edges = es }) ≡ outline_of from face
outline_among planes numbers from face p es e k h =
    same_outline (plane_named planes p) (plane_named from face.plane) (map (plane_named planes) es) (map (plane_named from) face.edges)
    (ap (plane_named planes) e ∙ (among_found planes numbers from face.plane h.plane).1)
    (ap (map (plane_named planes)) k ∙ among_map planes numbers from face.edges h.edges)

pub face_among : (planes : List Coefficients) (numbers : List ℕ) (from : List Coefficients) (face : Face) (p : ℕ) (es : List ℕ) → p ≡ number_among numbers face.plane → es ≡ map (number_among numbers) face.edges →
    AreNumbersFound planes numbers from face → IsFaceOver from face → IsFaceOver planes (record { plane = p; edges = es })
face_among planes numbers from face p es e k h f = record {
  plane = rw e (among_found planes numbers from face.plane h.plane).0;
  edges = rw k (among_in planes numbers from face.edges h.edges);
  polygon = subst IsPolygon (sym (outline_among planes numbers from face p es e k h)) f.polygon;
}

-- ---- laws
pub all_found : (planes : List Coefficients) (numbers : List ℕ) (from : List Coefficients) (face : Face) → AreNumbersOf planes numbers from → IsFaceOver from face → AreNumbersFound planes numbers from face
all_found planes numbers from face a f = record {
  plane = (let h = f.plane in a.each (face.plane / 2) (omega arith));
  edges = λ k d l. (let h = f.edges k d l in a.each (get_or face.edges k d / 2) (omega arith));
}

pub used_found : (planes : List Coefficients) (numbers : List ℕ) (from : List Coefficients) (used : List Bool) (face : Face) → AreNumbersOfUsed planes numbers from used → IsFaceOver from face → AreMarkedUsed used face → AreNumbersFound planes numbers from face
used_found planes numbers from used face a f m = record {
  plane = (let h = f.plane in a.each (face.plane / 2) (omega arith) m.plane);
  edges = λ k d l. (let h = f.edges k d l in a.each (get_or face.edges k d / 2) (omega arith) (m.edges k d l));
}

-- ---- marks
pub mark_here : (used : List Bool) (j : ℕ) → j < length used → get_or (set used j true) j false ≡ true
mark_here used j h = get_or-set_same used j true false h

pub mark_kept : (used : List Bool) (j m : ℕ) → j < length used → get_or used m false ≡ true → get_or (set used j true) m false ≡ true
mark_kept used j m h e = elim (cases_eq m j) [
  | inl s ↦ ap (λ (k : ℕ). get_or (set used j true) k false) s ∙ mark_here used j h
  | inr d ↦ get_or-set_other used j m true false d ∙ e
]

-- ---- the planes that are used
pub record AreKept (planes : List Coefficients) (used : List Bool) (kept : List Coefficients) (numbers : List ℕ) (i : ℕ) : Type 0 where
  pub count : length numbers ≡ i
  pub apart : HasNoTwoAlike kept
  pub from : (j : ℕ) → j < length kept → (k : ℕ) × (k < i) × (get_or kept j missing_plane ≡ get_or planes k missing_plane)
  pub each : (k : ℕ) → k < i → get_or used k false ≡ true → Finds kept numbers planes k

pub kept_none : (planes : List Coefficients) (used : List Bool) → AreKept planes used [] [] 0
kept_none planes used = record {
  count = refl;
  apart = record { apart = λ i j x y d. absurd (omega arith) };
  from = λ j h. absurd (omega arith);
  each = λ k h e. absurd (omega arith);
}

kept_apart : (planes : List Coefficients) (used : List Bool) (kept : List Coefficients) (numbers : List ℕ) (i : ℕ) → AreKept planes used kept numbers i → HasNoTwoAlike planes → i < length planes →
    HasNoTwoAlike (kept ++ get_or planes i missing_plane ∷ [])
kept_apart planes used kept numbers i h a l = apart_more kept (get_or planes i missing_plane) h.apart (λ j x.
    (let w = h.from j x in let d : w.0 ≢ i = λ e. omega (arith, w.1, e) in
    subst (λ (p : Coefficients). AreApart p (get_or planes i missing_plane)) (sym w.2) (a.apart w.0 i (omega (arith, w.1)) l d)))

kept_used : (planes : List Coefficients) (used : List Bool) (kept : List Coefficients) (numbers : List ℕ) (i : ℕ) → AreKept planes used kept numbers i → HasNoTwoAlike planes → i < length planes →
    AreKept planes used (kept ++ get_or planes i missing_plane ∷ []) (numbers ++ 2 * length kept ∷ []) (i + 1)
kept_used planes used kept numbers i h a l =
    let p = get_or planes i missing_plane in
    let n = length_push numbers (2 * length kept) in
    let m = length_push kept p in
    let c = h.count in
    record {
      count = omega arith;
      apart = kept_apart planes used kept numbers i h a l;
      from = λ j x. elim (cases_lt j (length kept)) [
        | inl y ↦ (let w = h.from j y in (w.0, omega (arith, w.1), get_or_append_left kept (p ∷ []) missing_plane j y ∙ w.2))
        | inr y ↦ (i, omega arith, get_or_push kept p missing_plane j (omega arith))
      ];
      each = λ k x e. elim (cases_lt k i) [
        | inl y ↦ finds_more (kept ++ p ∷ []) numbers (2 * length kept) planes k (omega arith) (finds_on kept (kept ++ p ∷ []) numbers planes k (keeps_more kept p) (h.each k y e))
        | inr y ↦ (let s : i ≡ k = omega arith in let q = get_or_push numbers (2 * length kept) 0 k (c ∙ s) in
            record { in_range = rw q (last_in kept p); same = ap (plane_named (kept ++ p ∷ [])) q ∙ named_last kept p ∙ ap (λ (j : ℕ). get_or planes j missing_plane) s })
      ];
    }

kept_unused : (planes : List Coefficients) (used : List Bool) (kept : List Coefficients) (numbers : List ℕ) (i n : ℕ) → AreKept planes used kept numbers i → get_or used i false ≡ false →
    AreKept planes used kept (numbers ++ n ∷ []) (i + 1)
kept_unused planes used kept numbers i n h u =
    let m = length_push numbers n in
    let c = h.count in
    record {
      count = omega arith;
      apart = h.apart;
      from = λ j x. (let w = h.from j x in (w.0, omega (arith, w.1), w.2));
      each = λ k x e. elim (cases_lt k i) [
        | inl y ↦ finds_more kept numbers n planes k (omega arith) (h.each k y e)
        | inr y ↦ (let s : i ≡ k = omega arith in absurd (true≢false (sym e ∙ ap (λ (j : ℕ). get_or used j false) (sym s) ∙ u)))
      ];
    }

pub kept_more : (planes : List Coefficients) (used : List Bool) (kept new : List Coefficients) (numbers more : List ℕ) (i n : ℕ) (b : Bool) (p : Coefficients) → AreKept planes used kept numbers i → HasNoTwoAlike planes → i < length planes →
    b ≡ get_or used i false → p ≡ get_or planes i p → IsPlaneKept b p kept new n → more ≡ numbers ++ n ∷ [] → AreKept planes used new more (i + 1)
kept_more planes used kept new numbers more i n true p h a l e r k m =
    let q = get_or_read planes i p l r missing_plane in
    rw (m, k.0, k.1, q) (kept_used planes used kept numbers i h a l)
kept_more planes used kept new numbers more i n false p h a l e r k m = rw (m, k) (kept_unused planes used kept numbers i n h (sym e))

pub kept_all : (planes : List Coefficients) (used : List Bool) (kept : List Coefficients) (numbers : List ℕ) (i : ℕ) → AreKept planes used kept numbers i → i ≡ length planes → AreNumbersOfUsed kept numbers planes used
kept_all planes used kept numbers i h e = record { count = h.count ∙ e; each = λ k l u. h.each k (omega arith) u }
