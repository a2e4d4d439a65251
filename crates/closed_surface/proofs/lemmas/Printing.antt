-- Faces that are closed are so as they are printed.
use Rattle.std.proofs.Common.{◌≡◌, ℕ, ◌+◌, Bool, true, false, ◌&&◌, ◌||◌, cond, List, [], ◌∷◌, ◌++◌, flat_map, take, drop, refl, sym, ap, ap₂, ◌∙◌, subst, arith, append_assoc}
use Rattle.std.specs.Prelude.{zip, count_by}
use Rattle.std.specs.List.{list_any}
use Rattle.std.proofs.lemmas.List.{append-nil}
use Rattle.std.proofs.lemmas.List.Folds.{list_any-append}
use Rattle.std.proofs.lemmas.List.Sums.{sum_by-append}
use Rattle.plane_predicate.specs.declared.unit.Unit.{Unit as LengthUnit}
use Rattle.plane_predicate.specs.declared.unit.Unit.TheVariants.{Whole}
use Rattle.plane_predicate.specs.Space.{Coordinates, IsPointTimes, IsInWorld}
use Rattle.plane_predicate.specs.InUnits.{in_units, in_steps}
use Rattle.plane_predicate.proofs.lemmas.InUnits.{whole_steps}
use Rattle.closed_surface.specs.Ways.{displacement, is_same_point_of_space, is_same_direction, is_opposite_direction}
use Rattle.closed_surface.specs.Closed.{Edge, edges_of, runs_through, is_corner, AreClosed}
use Rattle.closed_surface.specs.Printing.{AreInUnits, IsRoundOf, AreRoundsOf}
use Rattle.closed_surface.proofs.Multiples.{place_alike, along_alike, against_alike}

-- ---- counts of lists
abbrev weight : {X : Type 0} → (X → Bool) → X → ℕ
weight p x = cond (p x) 1 0

count_append : {X : Type 0} (p : X → Bool) (xs ys : List X) → count_by p (xs ++ ys) ≡ count_by p xs + count_by p ys
count_append p xs ys = sum_by-append (weight p) xs ys

count_cons : {X : Type 0} (p : X → Bool) (x : X) (xs : List X) → count_by p (x ∷ xs) ≡ (0 + weight p x) + count_by p xs
count_cons p x xs = count_append p (x ∷ []) xs

exchanged : (a b : ℕ) → a + b ≡ b + a
exchanged a b = omega arith

-- ---- the edges of a round, begun at another corner
abbrev path : Coordinates → List Coordinates → List Edge
path a [] = []
path a (b ∷ rest) = (a, b) ∷ path b rest

zip_path : (a z : Coordinates) (rest : List Coordinates) → zip (a ∷ rest) (rest ++ z ∷ []) ≡ path a (rest ++ z ∷ [])
zip_path a z [] = refl
zip_path a z (b ∷ rest) = ap (λ es. (a, b) ∷ es) (zip_path b z rest)

edges_path : (a : Coordinates) (rest : List Coordinates) → edges_of (a ∷ rest) ≡ path a (rest ++ a ∷ [])
edges_path a rest = zip_path a a rest

path_append : (a b : Coordinates) (xs ys : List Coordinates) → path a (xs ++ b ∷ ys) ≡ path a (xs ++ b ∷ []) ++ path b ys
path_append a b [] ys = refl
path_append a b (x ∷ xs) ys = ap (λ es. (a, x) ∷ es) (path_append x b xs ys)

-- the round that begins with x and goes on to y
two_paths : (x y : Coordinates) (xs ys : List Coordinates) → edges_of ((x ∷ xs) ++ (y ∷ ys)) ≡ path x (xs ++ y ∷ []) ++ path y (ys ++ x ∷ [])
two_paths x y xs ys =
    edges_path x (xs ++ y ∷ ys) ∙ ap (path x) (append_assoc xs (y ∷ ys) (x ∷ [])) ∙ path_append x y xs (ys ++ x ∷ [])

turned_count : (p : Edge → Bool) (front back : List Coordinates) → count_by p (edges_of (front ++ back)) ≡ count_by p (edges_of (back ++ front))
turned_count p [] back = ap (λ c. count_by p (edges_of c)) (sym (append-nil back))
turned_count p (x ∷ xs) [] = ap (λ c. count_by p (edges_of c)) (append-nil (x ∷ xs))
turned_count p (x ∷ xs) (y ∷ ys) =
    ap (count_by p) (two_paths x y xs ys) ∙ count_append p (path x (xs ++ y ∷ [])) (path y (ys ++ x ∷ []))
    ∙ exchanged (count_by p (path x (xs ++ y ∷ []))) (count_by p (path y (ys ++ x ∷ [])))
    ∙ sym (ap (count_by p) (two_paths y x ys xs) ∙ count_append p (path y (ys ++ x ∷ [])) (path x (xs ++ y ∷ [])))

or_exchanged : (a b : Bool) → (a || b) ≡ (b || a)
or_exchanged true true = refl
or_exchanged true false = refl
or_exchanged false true = refl
or_exchanged false false = refl

turned_any : (p : Coordinates → Bool) (front back : List Coordinates) → list_any p (front ++ back) ≡ list_any p (back ++ front)
turned_any p front back = list_any-append p front back ∙ or_exchanged (list_any p front) (list_any p back) ∙ sym (list_any-append p back front)

-- ---- the corners of a face in units
module _ (unit : LengthUnit) where
  units_append : (ps qs ps' qs' : List Coordinates) → AreInUnits unit ps ps' → AreInUnits unit qs qs' → AreInUnits unit (ps ++ qs) (ps' ++ qs')
  units_append [] qs [] qs' h k = k
  units_append [] qs (p' ∷ ps') qs' h k = absurd h
  units_append (p ∷ ps) qs [] qs' h k = absurd h
  units_append (p ∷ ps) qs (p' ∷ ps') qs' h k = (h.0, units_append ps qs ps' qs' h.1 k)

  next_units : (ps ps' : List Coordinates) → AreInUnits unit ps ps' → AreInUnits unit (drop 1 ps ++ take 1 ps) (drop 1 ps' ++ take 1 ps')
  next_units [] [] h = tt
  next_units [] (p' ∷ ps') h = absurd h
  next_units (p ∷ ps) [] h = absurd h
  next_units (p ∷ ps) (p' ∷ ps') h = units_append ps (p ∷ []) ps' (p' ∷ []) h.1 (h.0, tt)

  -- edges whose ends are in units pass tests that are alike
  abbrev AreAlike : (Edge → Bool) → (Edge → Bool) → Type 0
  AreAlike f g = (a a' b b' : Coordinates) → IsPointTimes (in_units unit a) a' → IsPointTimes (in_units unit b) b' → f (a, b) ≡ g (a', b')

  zip_count : (f g : Edge → Bool) → AreAlike f g → (ps qs ps' qs' : List Coordinates) → AreInUnits unit ps ps' → AreInUnits unit qs qs' → count_by f (zip ps qs) ≡ count_by g (zip ps' qs')
  zip_count f g e [] qs [] qs' h k = refl
  zip_count f g e [] qs (p' ∷ ps') qs' h k = absurd h
  zip_count f g e (p ∷ ps) qs [] qs' h k = absurd h
  zip_count f g e (p ∷ ps) [] (p' ∷ ps') [] h k = refl
  zip_count f g e (p ∷ ps) [] (p' ∷ ps') (q' ∷ qs') h k = absurd k
  zip_count f g e (p ∷ ps) (q ∷ qs) (p' ∷ ps') [] h k = absurd k
  zip_count f g e (p ∷ ps) (q ∷ qs) (p' ∷ ps') (q' ∷ qs') h k =
      count_cons f (p, q) (zip ps qs)
      ∙ ap₂ (λ (b : Bool) (n : ℕ). (0 + cond b 1 0) + n) (e p p' q q' h.0 k.0) (zip_count f g e ps qs ps' qs' h.1 k.1)
      ∙ sym (count_cons g (p', q') (zip ps' qs'))

  round_count : (f g : Edge → Bool) → AreAlike f g → (corners printed : List Coordinates) → IsRoundOf unit corners printed → count_by f (edges_of corners) ≡ count_by g (edges_of printed)
  round_count f g e corners printed h =
      zip_count f g e corners (drop 1 corners ++ take 1 corners) (h.front ++ h.back) (drop 1 (h.front ++ h.back) ++ take 1 (h.front ++ h.back)) h.places (next_units corners (h.front ++ h.back) h.places)
      ∙ turned_count g h.front h.back
      ∙ ap (λ c. count_by g (edges_of c)) (sym h.order)

  all_count : (f g : Edge → Bool) → AreAlike f g → (faces printed : List (List Coordinates)) → AreRoundsOf unit faces printed → count_by f (flat_map edges_of faces) ≡ count_by g (flat_map edges_of printed)
  all_count f g e [] [] h = refl
  all_count f g e [] (p ∷ printed) h = absurd h
  all_count f g e (c ∷ faces) [] h = absurd h
  all_count f g e (c ∷ faces) (p ∷ printed) h =
      count_append f (edges_of c) (flat_map edges_of faces)
      ∙ ap₂ (λ (m n : ℕ). m + n) (round_count f g e c p h.0) (all_count f g e faces printed h.1)
      ∙ sym (count_append g (edges_of p) (flat_map edges_of printed))

  -- ---- corners
  units_any : (q : Coordinates) (ps ps' : List Coordinates) → AreInUnits unit ps ps' → list_any (λ p. is_same_point_of_space p (in_steps unit q)) ps ≡ list_any (λ p. is_same_point_of_space p q) ps'
  units_any q [] [] h = refl
  units_any q [] (p' ∷ ps') h = absurd h
  units_any q (p ∷ ps) [] h = absurd h
  units_any q (p ∷ ps) (p' ∷ ps') h = ap₂ (λ (a b : Bool). a || b) (place_alike unit p p' q h.0) (units_any q ps ps' h.1)

  round_any : (q : Coordinates) (corners printed : List Coordinates) → IsRoundOf unit corners printed → list_any (λ p. is_same_point_of_space p (in_steps unit q)) corners ≡ list_any (λ p. is_same_point_of_space p q) printed
  round_any q corners printed h =
      units_any q corners (h.front ++ h.back) h.places ∙ turned_any (λ p. is_same_point_of_space p q) h.front h.back ∙ ap (list_any (λ p. is_same_point_of_space p q)) (sym h.order)

  corner_alike : (q : Coordinates) (faces printed : List (List Coordinates)) → AreRoundsOf unit faces printed → is_corner faces (in_steps unit q) ≡ is_corner printed q
  corner_alike q [] [] h = refl
  corner_alike q [] (p ∷ printed) h = absurd h
  corner_alike q (c ∷ faces) [] h = absurd h
  corner_alike q (c ∷ faces) (p ∷ printed) h =
      list_any-append (λ x. is_same_point_of_space x (in_steps unit q)) c (flat_map (λ x. x) faces)
      ∙ ap₂ (λ (a b : Bool). a || b) (round_any q c p h.0) (corner_alike q faces printed h.1)
      ∙ sym (list_any-append (λ x. is_same_point_of_space x q) p (flat_map (λ x. x) printed))

  pub printed_closed : (faces printed : List (List Coordinates)) → AreRoundsOf unit faces printed → AreClosed Whole faces → AreClosed unit printed
  printed_closed faces printed h closed q v world free =
      sym (all_count (λ e. runs_through e (in_steps unit q) && is_same_direction (displacement e.0 e.1) v) (λ e. runs_through e q && is_same_direction (displacement e.0 e.1) v) (λ a a' b b' x y. along_alike unit a a' b b' q v x y) faces printed h)
      ∙ closed (in_steps unit q) v (subst IsInWorld (sym (whole_steps (in_steps unit q))) world) (corner_alike q faces printed h ∙ free)
      ∙ all_count (λ e. runs_through e (in_steps unit q) && is_opposite_direction (displacement e.0 e.1) v) (λ e. runs_through e q && is_opposite_direction (displacement e.0 e.1) v) (λ a a' b b' x y. against_alike unit a a' b b' q v x y) faces printed h
