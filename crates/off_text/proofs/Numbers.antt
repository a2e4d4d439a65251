-- Vertices keep their numbers while more points are numbered, and stand at them.
use Rattle.std.proofs.Common.{◌≡◌, ℕ, ◌+◌, ◌<◌, ◌≤◌, Bool, true, false, cond, not, ◌||◌, ◌&&◌, eqb, List, [], ◌∷◌, ◌++◌, map, length, refl, sym, ap, ap₂, ◌∙◌, subst, arith, append_assoc, add-one, drop, take, get_or, drop-cons}
use Rattle.std.proofs.lemmas.List.{map-append, length-append, length-map, take-append-drop}
use Rattle.std.specs.List.{list_any, position_or_len}
use Rattle.std.specs.Ordering.{int_eq}
use Rattle.std.proofs.lemmas.Bool.{false≢true, and_from, and_parts, or_left}
use Rattle.std.proofs.lemmas.Bool.Decides.{Decides-int_eq}
use Rattle.std.proofs.lemmas.List.Folds.{list_any-append, position_or_len_push}
use Rattle.std.proofs.lemmas.List.Sums.{prefix_len-le-length, passes_at_first}
use Rattle.indexmap.specs.IndexSet.{insert_key}
use Rattle.plane_predicate.specs.Space.{Coordinates, origin, has_same_numbers}
use Rattle.plane_predicate.proofs.lemmas.Opposites.{same_point as equal_points}
use Rattle.off_text.specs.Texts.{vertex_number}
use Rattle.off_text.specs.Numbering.{with_points}
use Rattle.off_text.specs.FaceNumbers.{vertex_numbers}

-- the point is numbered
abbrev pub Known : List Coordinates → Coordinates → Type 0
Known vertices p = list_any (has_same_numbers p) vertices ≡ true

pub same_itself : (p : Coordinates) → has_same_numbers p p ≡ true
same_itself p = and_from _ _ ((Decides-int_eq p.x p.x).1 refl) (and_from _ _ ((Decides-int_eq p.y p.y).1 refl) (and_from _ _ ((Decides-int_eq p.z p.z).1 refl) ((Decides-int_eq p.w p.w).1 refl)))

pub same_equal : (p q : Coordinates) → has_same_numbers p q ≡ true → p ≡ q
same_equal p q e =
    let first = and_parts (int_eq p.x q.x) (int_eq p.y q.y && (int_eq p.z q.z && int_eq p.w q.w)) e in
    let second = and_parts (int_eq p.y q.y) (int_eq p.z q.z && int_eq p.w q.w) first.1 in
    let third = and_parts (int_eq p.z q.z) (int_eq p.w q.w) second.1 in
    equal_points p.x p.y p.z p.w q.x q.y q.z q.w ((Decides-int_eq p.x q.x).0 first.0) ((Decides-int_eq p.y q.y).0 second.0) ((Decides-int_eq p.z q.z).0 third.0) ((Decides-int_eq p.w q.w).0 third.1)

kept_step : (b t : Bool) (n m : ℕ) → (t ≡ true → n ≡ m) → (b || t) ≡ true → cond (not b) (1 + n) 0 ≡ cond (not b) (1 + m) 0
kept_step true t n m more h = refl
kept_step false t n m more h = ap (λ (k : ℕ). 1 + k) (more h)

-- what stands behind the first place changes nothing
pub place_kept : {X : Type 0} (p : X → Bool) (xs ys : List X) → list_any p xs ≡ true → position_or_len p (xs ++ ys) ≡ position_or_len p xs
place_kept p [] ys h = absurd (false≢true h)
place_kept p (x ∷ xs) ys h = kept_step (p x) (list_any p xs) (position_or_len p (xs ++ ys)) (position_or_len p xs) (place_kept p xs ys) h

below_step : (b t : Bool) (n m : ℕ) → (t ≡ true → n < m) → (b || t) ≡ true → cond (not b) (1 + n) 0 < 1 + m
below_step true t n m more h = omega arith
below_step false t n m more h = omega (arith, more h)

pub place_below : {X : Type 0} (p : X → Bool) (xs : List X) → list_any p xs ≡ true → position_or_len p xs < length xs
place_below p [] h = absurd (false≢true h)
place_below p (x ∷ xs) h = omega (arith, below_step (p x) (list_any p xs) (position_or_len p xs) (length xs) (place_below p xs) h)

-- and stands at its number
pub known_at : (vertices : List Coordinates) (p : Coordinates) → Known vertices p → get_or vertices (vertex_number vertices p) origin ≡ p
known_at vertices p h = sym (same_equal p _ (passes_at_first (has_same_numbers p) vertices origin (place_below (has_same_numbers p) vertices h)))

inserted_step : (p q : Coordinates) (vertices : List Coordinates) (b : Bool) → Known vertices q →
    Known (cond b vertices (vertices ++ p ∷ [])) q × (vertex_number (cond b vertices (vertices ++ p ∷ [])) q ≡ vertex_number vertices q)
inserted_step p q vertices true h = (h, refl)
inserted_step p q vertices false h =
    (list_any-append (has_same_numbers q) vertices (p ∷ []) ∙ or_left (list_any (has_same_numbers q) vertices) _ h, place_kept (has_same_numbers q) vertices (p ∷ []) h)

-- a numbered point keeps its number
pub inserted_keeps : (p q : Coordinates) (vertices : List Coordinates) → Known vertices q →
    Known (insert_key has_same_numbers vertices p) q × (vertex_number (insert_key has_same_numbers vertices p) q ≡ vertex_number vertices q)
inserted_keeps p q vertices h = inserted_step p q vertices (list_any (has_same_numbers p) vertices) h

pub grown_keeps : (q : Coordinates) (points vertices : List Coordinates) → Known vertices q →
    Known (with_points vertices points) q × (vertex_number (with_points vertices points) q ≡ vertex_number vertices q)
grown_keeps q [] vertices h = (h, refl)
grown_keeps q (p ∷ points) vertices h =
    let one = inserted_keeps p q vertices h in
    let rest = grown_keeps q points (insert_key has_same_numbers vertices p) one.0 in
    (rest.0, rest.1 ∙ one.1)

or_right : (b t : Bool) → t ≡ true → (b || t) ≡ true
or_right true t h = refl
or_right false t h = h

last_place : (b : Bool) (n m : ℕ) → (b ≡ true → n ≡ m) → cond b (m + 0) n ≡ n
last_place true n m h = omega (arith, h refl)
last_place false n m h = refl

eqb-equal : (n m : ℕ) → eqb n m ≡ true → n ≡ m
eqb-equal n m e = grind (arith, e)

own_step : (p : Coordinates) (vertices : List Coordinates) (b : Bool) → list_any (has_same_numbers p) vertices ≡ b →
    Known (cond b vertices (vertices ++ p ∷ [])) p × (vertex_number (cond b vertices (vertices ++ p ∷ [])) p ≡ vertex_number vertices p)
own_step p vertices true e = (e, refl)
own_step p vertices false e = (
  list_any-append (has_same_numbers p) vertices (p ∷ []) ∙ or_right (list_any (has_same_numbers p) vertices) _ (or_left (has_same_numbers p p) false (same_itself p)),
  position_or_len_push (has_same_numbers p) vertices p
      ∙ ap (λ (b : Bool). cond (eqb (vertex_number vertices p) (length vertices)) (length vertices + cond b 0 1) (vertex_number vertices p)) (same_itself p)
      ∙ last_place (eqb (vertex_number vertices p) (length vertices)) (vertex_number vertices p) (length vertices) (λ e. eqb-equal (vertex_number vertices p) (length vertices) e),
)

-- a point has its number once it is numbered
pub inserted_itself : (p : Coordinates) (vertices : List Coordinates) →
    Known (insert_key has_same_numbers vertices p) p × (vertex_number (insert_key has_same_numbers vertices p) p ≡ vertex_number vertices p)
inserted_itself p vertices = own_step p vertices (list_any (has_same_numbers p) vertices) refl

-- points, of which each is numbered
abbrev pub AllKnown : List Coordinates → List Coordinates → Type 0
AllKnown vertices [] = Unit {0}
AllKnown vertices (q ∷ points) = Known vertices q × AllKnown vertices points

pub all_kept : (more vertices points : List Coordinates) → AllKnown vertices points →
    AllKnown (with_points vertices more) points × (map (vertex_number (with_points vertices more)) points ≡ map (vertex_number vertices) points)
all_kept more vertices [] h = (tt, refl)
all_kept more vertices (q ∷ points) h =
    let one = grown_keeps q more vertices h.0 in
    let rest = all_kept more vertices points h.1 in
    ((one.0, rest.0), ap₂ (λ (n : ℕ) (l : List ℕ). n ∷ l) one.1 rest.1)

pub grown_knows : (points vertices : List Coordinates) → AllKnown (with_points vertices points) points
grown_knows [] vertices = tt
grown_knows (p ∷ points) vertices =
    ((grown_keeps p points (insert_key has_same_numbers vertices p) (inserted_itself p vertices).0).0, grown_knows points (insert_key has_same_numbers vertices p))

pub with_points-append : (xs ys vertices : List Coordinates) → with_points vertices (xs ++ ys) ≡ with_points (with_points vertices xs) ys
with_points-append [] ys vertices = refl
with_points-append (x ∷ xs) ys vertices = with_points-append xs ys (insert_key has_same_numbers vertices x)

-- one more point of those that are still to be numbered
numbers_step : (vertices rest : List Coordinates) (numbers : List ℕ) (p : Coordinates) →
    (numbers ++ vertex_number vertices p ∷ []) ++ vertex_numbers (with_points (insert_key has_same_numbers vertices p) rest) rest
    ≡ numbers ++ vertex_numbers (with_points vertices (p ∷ rest)) (p ∷ rest)
numbers_step vertices rest numbers p =
    let own = inserted_itself p vertices in
    let kept = grown_keeps p rest (insert_key has_same_numbers vertices p) own.0 in
    append_assoc numbers (vertex_number vertices p ∷ []) (vertex_numbers (with_points (insert_key has_same_numbers vertices p) rest) rest)
    ∙ ap (λ (n : ℕ). numbers ++ n ∷ vertex_numbers (with_points (insert_key has_same_numbers vertices p) rest) rest) (sym (kept.1 ∙ own.1))

module _ (vertices new corners : List Coordinates) (i : ℕ) (p : Coordinates) (h : i < length corners) (is : p ≡ get_or corners i p) (grows : new ≡ insert_key has_same_numbers vertices p) where
  next_left : drop i corners ≡ p ∷ drop (i + 1) corners
  next_left = drop-cons corners i p h ∙ ap₂ (λ (c : Coordinates) (l : List Coordinates). c ∷ l) (sym is) (ap (λ (n : ℕ). drop n corners) (sym (add-one i)))

  -- a corner more is numbered
  pub corner_grows : (whole : List Coordinates) → with_points vertices (drop i corners) ≡ whole → with_points new (drop (i + 1) corners) ≡ whole
  corner_grows whole e = ap (λ (v : List Coordinates). with_points v (drop (i + 1) corners)) grows ∙ ap (with_points vertices) (sym next_left) ∙ e

  -- and its number is put down
  pub corner_numbers : (numbers more whole : List ℕ) → more ≡ numbers ++ vertex_number vertices p ∷ [] →
      numbers ++ vertex_numbers (with_points vertices (drop i corners)) (drop i corners) ≡ whole →
      more ++ vertex_numbers (with_points new (drop (i + 1) corners)) (drop (i + 1) corners) ≡ whole
  corner_numbers numbers more whole m e =
      ap₂ (λ (l : List ℕ) (v : List Coordinates). l ++ vertex_numbers (with_points v (drop (i + 1) corners)) (drop (i + 1) corners)) m grows
      ∙ numbers_step vertices (drop (i + 1) corners) numbers p
      ∙ ap (λ (l : List Coordinates). numbers ++ vertex_numbers (with_points vertices l) l) (sym next_left)
      ∙ e

-- two parts of a face, numbered one after the other
pub face_grows : (old new last back front : List Coordinates) → new ≡ with_points old back → last ≡ with_points new front → last ≡ with_points old (back ++ front)
face_grows old new last back front e f = f ∙ ap (λ (v : List Coordinates). with_points v front) e ∙ sym (with_points-append back front old)

-- and their numbers, put down in two parts
pub face_numbers : (old new last back front : List Coordinates) (before half whole : List ℕ) →
    new ≡ with_points old back → last ≡ with_points new front → half ≡ before ++ vertex_numbers new back → whole ≡ half ++ vertex_numbers last front →
    whole ≡ before ++ vertex_numbers last (back ++ front)
face_numbers old new last back front before half whole e f h w =
    let known : AllKnown new back = subst (λ (v : List Coordinates). AllKnown v back) (sym e) (grown_knows back old) in
    let kept : vertex_numbers last back ≡ vertex_numbers new back =
    ap (λ (v : List Coordinates). vertex_numbers v back) f ∙ (all_kept front new back known).1 in
    w ∙ ap (λ (ns : List ℕ). ns ++ vertex_numbers last front) (h ∙ ap (λ (ns : List ℕ). before ++ ns) (sym kept))
    ∙ append_assoc before (vertex_numbers last back) (vertex_numbers last front)
    ∙ ap (λ (ns : List ℕ). before ++ ns) (sym (map-append (vertex_number last) back front))

pub round_length : (corners : List Coordinates) (n : ℕ) (front back : List Coordinates) → front ≡ take n corners → back ≡ drop n corners → length corners ≡ length (back ++ front)
round_length corners n front back f g =
    ap length (sym (take-append-drop n corners)) ∙ length-append (take n corners) (drop n corners)
    ∙ (let s : length (take n corners) + length (drop n corners) ≡ length (drop n corners) + length (take n corners) = omega arith in s)
    ∙ sym (length-append (drop n corners) (take n corners)) ∙ ap₂ (λ (x y : List Coordinates). length (x ++ y)) (sym g) (sym f)

-- a place within a list, or behind it
pub place_at_most : (p : Coordinates → Bool) (corners : List Coordinates) → position_or_len p corners ≤ length corners
place_at_most p corners = prefix_len-le-length (λ c. not (p c)) corners

pub round_parts : (corners : List Coordinates) (n : ℕ) (front back : List Coordinates) → front ≡ take n corners → back ≡ drop n corners → back ++ front ≡ drop n corners ++ take n corners
round_parts corners n front back f g = ap₂ (λ (x y : List Coordinates). x ++ y) g f
