-- The vertices of a text are different points, and each is a corner of a face.
use Rattle.std.proofs.Common.{◌≡◌, ◌⊎◌, inl, inr, ℕ, zero, suc, ◌<◌, Bool, true, false, cond, not, ◌||◌, ◌&&◌, List, [], ◌∷◌, ◌++◌, map, flat_map, filter, length, get_or, refl, sym, ap, ap₂, ◌∙◌, subst, arith, All, ℤ, pos, ◌-ℤ◌, ◌*ℤ◌}
use Rattle.std.specs.Prelude.{Contains}
use Rattle.std.specs.List.{list_any}
use Rattle.std.specs.Ordering.{int_eq}
use Rattle.std.proofs.lemmas.Bool.{false≢true, and_parts, or_left}
use Rattle.std.proofs.lemmas.Bool.Decides.{Decides-int_eq}
use Rattle.std.proofs.lemmas.List.{map-append}
use Rattle.plane_predicate.specs.Space.{Coordinates, origin, has_same_numbers}
use Rattle.plane_predicate.proofs.lemmas.IntegerRing.{sums, mul_comm_ℤ}
use Rattle.closed_surface.specs.Ways.{displacement, is_same_point_of_space}
use Rattle.closed_surface.proofs.lemmas.Each.{Each, each_weaker, Member, each_from_all}
use Rattle.off_text.specs.Reading.{IsPrintedVertex}
use Rattle.off_text.specs.Vertices.{AreVerticesOf}
use Rattle.off_text.specs.Texts.{distinct_points, vertex_number, printed_corners, vertices_of, numbered_faces}
use Rattle.off_text.proofs.Numbers.{Known, same_itself, place_below, known_at}
use Rattle.off_text.proofs.Gathered.{joined}
use Rattle.off_text.proofs.lemmas.Unique.{one_point}

-- ---- two vertices at one place have the same numbers
no_way : (x : ℤ) → int_eq x (pos 0) ≡ true → x ≡ pos 0
no_way x h = (Decides-int_eq x (pos 0)).0 h

times_same : (pw qw p q : ℤ) → pw *ℤ q -ℤ qw *ℤ p ≡ pos 0 → qw *ℤ p ≡ pw *ℤ q
times_same pw qw p q e = omega (arith, sums)

one_vertex : (p q : Coordinates) → IsPrintedVertex p → IsPrintedVertex q → is_same_point_of_space p q ≡ true → p ≡ q
one_vertex p q hp hq e =
    let first = and_parts (int_eq (displacement p q).x (pos 0)) (int_eq (displacement p q).y (pos 0) && int_eq (displacement p q).z (pos 0)) e in
    let second = and_parts (int_eq (displacement p q).y (pos 0)) (int_eq (displacement p q).z (pos 0)) first.1 in
    one_point (record { x = q.w *ℤ p.x; y = q.w *ℤ p.y; z = q.w *ℤ p.z; w = q.w *ℤ p.w }) p q
    (record { by = q.w; above = hq.weight; x = refl; y = refl; z = refl; w = refl })
    (record { reduced = hp.reduced })
    (record {
      by = p.w;
      above = hp.weight;
      x = times_same p.w q.w p.x q.x (no_way (displacement p q).x first.0);
      y = times_same p.w q.w p.y q.y (no_way (displacement p q).y second.0);
      z = times_same p.w q.w p.z q.z (no_way (displacement p q).z second.1);
      w = mul_comm_ℤ q.w p.w;
    })
    (record { reduced = hq.reduced })

-- ---- what is left of a list by a test
abbrev NoTwoSame : List Coordinates → Type 0
NoTwoSame [] = Unit {0}
NoTwoSame (p ∷ points) = Each (λ q. has_same_numbers p q ≡ false) points × NoTwoSame points

each_kept : (P : Coordinates → Type 0) (b : Bool) (x : Coordinates) (xs : List Coordinates) → P x → Each P xs → Each P (cond b (x ∷ xs) xs)
each_kept P true x xs h e = (h, e)
each_kept P false x xs h e = e

each_filter : (P : Coordinates → Type 0) (f : Coordinates → Bool) (xs : List Coordinates) → Each P xs → Each P (filter f xs)
each_filter P f [] e = tt
each_filter P f (x ∷ xs) e = each_kept P (f x) x (filter f xs) e.0 (each_filter P f xs e.1)

pass_kept : (f : Coordinates → Bool) (b : Bool) (x : Coordinates) (xs : List Coordinates) → f x ≡ b → Each (λ q. f q ≡ true) xs → Each (λ q. f q ≡ true) (cond b (x ∷ xs) xs)
pass_kept f true x xs h e = (h, e)
pass_kept f false x xs h e = e

each_passes : (f : Coordinates → Bool) (xs : List Coordinates) → Each (λ q. f q ≡ true) (filter f xs)
each_passes f [] = tt
each_passes f (x ∷ xs) = pass_kept f (f x) x (filter f xs) refl (each_passes f xs)

no_two_kept : (b : Bool) (x : Coordinates) (xs : List Coordinates) → Each (λ q. has_same_numbers x q ≡ false) xs → NoTwoSame xs → NoTwoSame (cond b (x ∷ xs) xs)
no_two_kept true x xs h e = (h, e)
no_two_kept false x xs h e = e

no_two_filter : (f : Coordinates → Bool) (xs : List Coordinates) → NoTwoSame xs → NoTwoSame (filter f xs)
no_two_filter f [] h = tt
no_two_filter f (x ∷ xs) h = no_two_kept (f x) x (filter f xs) (each_filter (λ q. has_same_numbers x q ≡ false) f xs h.0) (no_two_filter f xs h.1)

not_true : (b : Bool) → not b ≡ true → b ≡ false
not_true true h = absurd (false≢true h)
not_true false h = refl

no_two_same : (points : List Coordinates) → NoTwoSame (distinct_points points)
no_two_same [] = tt
no_two_same (p ∷ points) = (
  each_weaker (λ q. not (has_same_numbers p q) ≡ true) (λ q. has_same_numbers p q ≡ false) (λ q e. not_true (has_same_numbers p q) e)
      (filter (λ q. not (has_same_numbers p q)) (distinct_points points)) (each_passes (λ q. not (has_same_numbers p q)) (distinct_points points)),
  no_two_filter (λ q. not (has_same_numbers p q)) (distinct_points points) (no_two_same points),
)

member_kept : (b : Bool) (v x : Coordinates) (xs ys : List Coordinates) → (Member v xs → Member v ys) → Member v (cond b (x ∷ xs) xs) → Member v (x ∷ ys)
member_kept true v x xs ys h (inl e) = inl e
member_kept true v x xs ys h (inr m) = inr (h m)
member_kept false v x xs ys h m = inr (h m)

member_filter : (f : Coordinates → Bool) (v : Coordinates) (xs : List Coordinates) → Member v (filter f xs) → Member v xs
member_filter f v [] m = m
member_filter f v (x ∷ xs) m = member_kept (f x) v x (filter f xs) xs (member_filter f v xs) m

member_distinct : (v : Coordinates) (points : List Coordinates) → Member v (distinct_points points) → Member v points
member_distinct v [] m = m
member_distinct v (p ∷ points) (inl e) = inl e
member_distinct v (p ∷ points) (inr m) = inr (member_distinct v points (member_filter (λ q. not (has_same_numbers p q)) v (distinct_points points) m))

-- ---- by number
each_at : (P : Coordinates → Type 0) (xs : List Coordinates) → Each P xs → (i : ℕ) → i < length xs → P (get_or xs i origin)
each_at P [] e i l = absurd (omega arith)
each_at P (x ∷ xs) e zero l = e.0
each_at P (x ∷ xs) e (suc i) l = each_at P xs e.1 i (omega arith)

member_at : (xs : List Coordinates) (i : ℕ) → i < length xs → Member (get_or xs i origin) xs
member_at [] i l = absurd (omega arith)
member_at (x ∷ xs) zero l = inl refl
member_at (x ∷ xs) (suc i) l = inr (member_at xs i (omega arith))

one_number : (points : List Coordinates) → NoTwoSame points → (i j : ℕ) → i < length points → j < length points → get_or points i origin ≡ get_or points j origin → i ≡ j
one_number [] h i j l k e = absurd (omega arith)
one_number (p ∷ points) h zero zero l k e = refl
one_number (p ∷ points) h zero (suc j) l k e =
    absurd (false≢true (sym (each_at (λ q. has_same_numbers p q ≡ false) points h.0 j (omega arith)) ∙ ap (has_same_numbers p) (sym e) ∙ same_itself p))
one_number (p ∷ points) h (suc i) zero l k e =
    absurd (false≢true (sym (each_at (λ q. has_same_numbers p q ≡ false) points h.0 i (omega arith)) ∙ ap (has_same_numbers p) e ∙ same_itself p))
one_number (p ∷ points) h (suc i) (suc j) l k e = ap suc (one_number points h.1 i j (omega arith) (omega arith) e)

or_right : (b t : Bool) → t ≡ true → (b || t) ≡ true
or_right true t h = refl
or_right false t h = h

known_by : (v : Coordinates) (points : List Coordinates) → Member v points → Known points v
known_by v [] m = absurd m
known_by v (p ∷ points) (inl e) = or_left (has_same_numbers v p) (list_any (has_same_numbers v) points) (ap (has_same_numbers v) (sym e) ∙ same_itself v)
known_by v (p ∷ points) (inr m) = or_right (has_same_numbers v p) (list_any (has_same_numbers v) points) (known_by v points m)

contains_map : (g : Coordinates → ℕ) (v : Coordinates) (points : List Coordinates) → Member v points → Contains (map g points) (g v)
contains_map g v [] m = absurd m
contains_map g v (p ∷ points) (inl e) = (0, omega arith, ap g (sym e))
contains_map g v (p ∷ points) (inr m) = let c = contains_map g v points m in (suc c.0, omega (arith, c.1), c.2)

all_named : (g : Coordinates → ℕ) (faces : List (List Coordinates)) → flat_map (λ face. face) (map (map g) faces) ≡ map g (joined faces)
all_named g [] = refl
all_named g (f ∷ faces) = ap (λ (ns : List ℕ). map g f ++ ns) (all_named g faces) ∙ sym (map-append g f (joined faces))

-- ---- the vertices of a text
module _ (found : List (List Coordinates)) where
  abbrev points : List Coordinates
  points = joined (printed_corners found)

  abbrev vertices : List Coordinates
  vertices = vertices_of found

  own_number : (i : ℕ) → i < length vertices → vertex_number vertices (get_or vertices i origin) ≡ i
  own_number i l =
      let v = get_or vertices i origin in
      let known = known_by v vertices (member_at vertices i l) in
      one_number vertices (no_two_same points) (vertex_number vertices v) i (place_below (has_same_numbers v) vertices known) l (known_at vertices v known)

  pub own_vertices : All IsPrintedVertex (vertices_of found) → AreVerticesOf (numbered_faces found) (vertices_of found)
  own_vertices all =
      let each = each_from_all IsPrintedVertex vertices all in record {
        different = λ i j l k e. one_number vertices (no_two_same points) i j l k
            (one_vertex (get_or vertices i origin) (get_or vertices j origin) (each_at IsPrintedVertex vertices each i l) (each_at IsPrintedVertex vertices each j k) e);
        used = λ i l. subst (λ (n : ℕ). Contains (flat_map (λ face. face) (numbered_faces found)) n) (own_number i l)
            (subst (λ (ns : List ℕ). Contains ns (vertex_number vertices (get_or vertices i origin))) (sym (all_named (vertex_number vertices) (printed_corners found)))
            (contains_map (vertex_number vertices) (get_or vertices i origin) points (member_distinct (get_or vertices i origin) points (member_at vertices i l))));
      }
