-- Points put into their places.
use Rattle.std.proofs.Common.{◌≡◌, ℕ, suc, ◌+◌, ◌<◌, ◌≤◌, ℤ, int_cmp, List, [], ◌∷◌, ◌++◌, length, get_or, take, drop, fold, insert, refl, sym, ap, ◌∙◌, subst, arith, append_assoc, Less, Equal, Greater, Ordering, take-append-drop}
use Rattle.std.specs.Cmp.Lexicographic.{slice_cmp}
use Rattle.std.proofs.lemmas.List.{drop_all, drop_more, take_more}
use Rattle.scad_hull.specs.Hulls.{points_in_order, point_put_among}
use Rattle.scad_hull.proofs.Found.{fold_append}

-- the first ones stay where they are
pub record HasLess (p : List ℤ) (points : List (List ℤ)) (i : ℕ) : Type 0 where
  pub stay : point_put_among p points ≡ take i points ++ point_put_among p (drop i points)

abbrev put_by : Ordering → List ℤ → List ℤ → List (List ℤ) → List (List ℤ)
put_by o p q points = elim o [ Less ↦ q ∷ point_put_among p points | Equal ↦ q ∷ points | Greater ↦ p ∷ q ∷ points ]

put_is : (p q : List ℤ) (points : List (List ℤ)) (o : Ordering) → slice_cmp int_cmp q p ≡ o → point_put_among p (q ∷ points) ≡ put_by o p q points
put_is p q points o e = ap (λ r. put_by r p q points) e

pub none_less : (p : List ℤ) (points : List (List ℤ)) → HasLess p points 0
none_less p points = record { stay = refl }

pub one_less : (p : List ℤ) (points : List (List ℤ)) (i : ℕ) → i < length points → slice_cmp int_cmp (get_or points i []) p ≡ Less → HasLess p points i → HasLess p points (i + 1)
one_less p points i lt less h =
    let q = get_or points i [] in
    record {
      stay =
          h.stay ∙ ap (λ rest. take i points ++ point_put_among p rest) (drop_more points i [] lt) ∙ ap (λ rest. take i points ++ rest) (put_is p q (drop (i + 1) points) Less less)
          ∙ sym (append_assoc (take i points) (q ∷ []) (point_put_among p (drop (i + 1) points))) ∙ ap (λ first. first ++ point_put_among p (drop (i + 1) points)) (sym (take_more points i [] lt));
    }

pub is_there : (p : List ℤ) (points : List (List ℤ)) (i : ℕ) → i < length points → slice_cmp int_cmp (get_or points i []) p ≡ Equal → HasLess p points i → point_put_among p points ≡ points
is_there p points i lt same h =
    let q = get_or points i [] in
    h.stay ∙ ap (λ rest. take i points ++ point_put_among p rest) (drop_more points i [] lt) ∙ ap (λ rest. take i points ++ rest) (put_is p q (drop (i + 1) points) Equal same ∙ sym (drop_more points i [] lt)) ∙ take-append-drop i points

pub goes_before : (p : List ℤ) (points : List (List ℤ)) (i : ℕ) → i < length points → slice_cmp int_cmp (get_or points i []) p ≡ Greater → HasLess p points i → point_put_among p points ≡ insert points i p
goes_before p points i lt more h =
    let q = get_or points i [] in
    h.stay ∙ ap (λ rest. take i points ++ point_put_among p rest) (drop_more points i [] lt) ∙ ap (λ rest. take i points ++ rest) (put_is p q (drop (i + 1) points) Greater more ∙ ap (λ rest. p ∷ rest) (sym (drop_more points i [] lt)))

pub goes_last : (p : List ℤ) (points : List (List ℤ)) (i : ℕ) → i ≡ length points → HasLess p points i → point_put_among p points ≡ insert points i p
goes_last p points i e h =
    let none = drop_all i points (omega (arith, e)) in
    h.stay ∙ ap (λ rest. take i points ++ point_put_among p rest) none ∙ ap (λ rest. take i points ++ (p ∷ rest)) (sym none)

-- ---- how many there are
longer_by : (o : Ordering) (p q : List ℤ) (points : List (List ℤ)) → length points ≤ length (point_put_among p points) → suc (length points) ≤ length (put_by o p q points)
longer_by Less p q points h = omega (arith, h)
longer_by Equal p q points h = omega arith
longer_by Greater p q points h = omega arith

longer : (p : List ℤ) (points : List (List ℤ)) → length points ≤ length (point_put_among p points)
longer p [] = omega arith
longer p (q ∷ points) = longer_by (slice_cmp int_cmp q p) p q points (longer p points)

abbrev with_point : List (List ℤ) → List ℤ → List (List ℤ)
with_point points p = point_put_among p points

longer_all : (points more : List (List ℤ)) → length points ≤ length (fold with_point points more)
longer_all points [] = omega arith
longer_all points (p ∷ more) = omega (arith, longer p points, longer_all (point_put_among p points) more)

-- the different ones of the first points are at most as many as those of all
pub more_different : (given : List (List ℤ)) (i : ℕ) → length (points_in_order (take i given)) ≤ length (points_in_order given)
more_different given i =
    let split : points_in_order given ≡ fold with_point (points_in_order (take i given)) (drop i given) = ap points_in_order (sym (take-append-drop i given)) ∙ fold_append with_point [] (take i given) (drop i given) in
    subst (λ all. length (points_in_order (take i given)) ≤ length all) (sym split) (longer_all (points_in_order (take i given)) (drop i given))

-- one more point
pub next_different : (given : List (List ℤ)) (i : ℕ) (d : List ℤ) → i < length given → point_put_among (get_or given i d) (points_in_order (take i given)) ≡ points_in_order (take (i + 1) given)
next_different given i d lt = sym (ap points_in_order (take_more given i d lt) ∙ fold_append with_point [] (take i given) (get_or given i d ∷ []))
