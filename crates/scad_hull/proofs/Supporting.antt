-- The faces of a hull: each is a supporting triple, and each supporting triple has its plane among them.
use Rattle.std.proofs.Common.{◌≡◌, inl, inr, true, not, List, [], ◌∷◌, length, filter, refl, sym, ap, ◌∙◌, subst, arith, ℤ, pos, ◌*ℤ◌, ℕ, ◌+◌, ◌<◌}
use Rattle.std.specs.List.{AllByRecursion}
use Rattle.std.proofs.lemmas.Bool.{cases_Bool, not_from_false}
use Rattle.plane_predicate.specs.Space.{Coefficients, Coordinates, value, AreCollinear}
use Rattle.plane_predicate.proofs.lemmas.IntegerRing.{mul_comm_ℤ, zero_mul}
use Rattle.primitives.specs.Shapes.{mesh_point}
use Rattle.primitives.proofs.lemmas.Moves.{cancelled}
use Rattle.primitives.proofs.lemmas.OnePlane.{nowhere, two_planes}
use Rattle.scad_hull.specs.Hulls.{faces_of_hull, first_of_planes, numbers_between, is_supporting, plane_of, shares_plane, triples, triples_by, triples_from}
use Rattle.scad_hull.proofs.lemmas.Lines.{at, holds_first, holds_second, holds_third, plane, zero_by}
use Rattle.scad_hull.proofs.lemmas.Members.{all_filter, all_flat, all_from, all_map, all_weaker, among_filter, among_flat, among_from, among_map, IsAmong, IsWithin, member}
use Rattle.scad_hull.proofs.Tests.{Holds, shared, shares, supports, Supports, triple}

-- ---- planes through the same three points
pub not_nowhere : (points : List (List ℤ)) (i j k : ℕ) → (AreCollinear (mesh_point points i) (mesh_point points j) (mesh_point points k) → ⊥) → ((p : Coordinates) → value (plane points i j k) p ≡ pos 0) → ⊥
not_nowhere points i j k apart all = let z = nowhere (plane points i j k) all in apart (record { a = z.0; b = z.1; c = z.2 })

pub crossed : (points : List (List ℤ)) (i j k : ℕ) → (AreCollinear (mesh_point points i) (mesh_point points j) (mesh_point points k) → ⊥) → (m n : Coefficients) → Holds points m i j k → Holds points n i j k → (q : Coordinates) → (value m q ≡ pos 0 → ⊥) → (p : Coordinates) → value m p *ℤ value n q ≡ value n p *ℤ value m q
crossed points i j k apart m n hm hn q off p =
    two_planes m n (at points i 0) (at points i 1) (at points i 2) (at points j 0) (at points j 1) (at points j 2) (at points k 0) (at points k 1) (at points k 2)
    (record { first = hm.first; second = hm.second; third = hm.third }) (record { first = hn.first; second = hn.second; third = hn.third }) apart q off p

-- where one of two planes through three points, not on one line, is 0, so is the other
pub same_zeros : (points : List (List ℤ)) (i j k : ℕ) → (AreCollinear (mesh_point points i) (mesh_point points j) (mesh_point points k) → ⊥) → (m n : Coefficients) → Holds points m i j k → Holds points n i j k → (((p : Coordinates) → value n p ≡ pos 0) → ⊥) → (p : Coordinates) → value n p ≡ pos 0 → value m p ≡ pos 0
same_zeros points i j k apart m n hm hn somewhere p on =
    zero_by (value m p) (λ off. somewhere (λ r. cancelled (value m p) (value n r) off
    (mul_comm_ℤ (value m p) (value n r) ∙ sym (crossed points i j k apart m n hm hn p off r) ∙ ap (λ (z : ℤ). value m r *ℤ z) on ∙ mul_comm_ℤ (value m r) (pos 0) ∙ zero_mul (value m r))))

pub own : (points : List (List ℤ)) (i j k : ℕ) → Holds points (plane points i j k) i j k
own points i j k = record { first = holds_first points i j k; second = holds_second points i j k; third = holds_third points i j k }

-- ---- triples
pub record IsTriple (n : ℕ) (t : List ℕ) : Type 0 where
  pub i : ℕ
  pub j : ℕ
  pub k : ℕ
  pub is : t ≡ triple i j k
  pub up : i < j
  pub more : j < k
  pub below : k < n

pub all_triples : (n : ℕ) → AllByRecursion (IsTriple n) (triples n)
all_triples n =
    all_flat (IsTriple n) (triples_from n) (numbers_between 0 n) (all_weaker (IsWithin 0 n) (λ i. AllByRecursion (IsTriple n) (triples_from n i)) (λ i wi.
    all_flat (IsTriple n) (triples_by n i) (numbers_between (i + 1) n) (all_weaker (IsWithin (i + 1) n) (λ j. AllByRecursion (IsTriple n) (triples_by n i j)) (λ j wj.
    all_map (IsTriple n) (triple i j) (numbers_between (j + 1) n) (all_weaker (IsWithin (j + 1) n) (λ k. IsTriple n (triple i j k)) (λ k wk.
    record { i = i; j = j; k = k; is = refl; up = omega (arith, wj.least); more = omega (arith, wk.least); below = wk.below }) (numbers_between (j + 1) n) (all_from (j + 1) n))) (numbers_between (i + 1) n) (all_from (i + 1) n))) (numbers_between 0 n) (all_from 0 n))

pub among_triples : (n i j k : ℕ) → i < j → j < k → k < n → IsAmong (triple i j k) (triples n)
among_triples n i j k hi hj hk =
    among_flat (triples_from n) i (triple i j k) (numbers_between 0 n) (among_from 0 n i (omega arith) (omega (arith, hi, hj, hk)))
    (among_flat (triples_by n i) j (triple i j k) (numbers_between (i + 1) n) (among_from (i + 1) n j (omega (arith, hi)) (omega (arith, hj, hk)))
    (among_map (triple i j) k (numbers_between (j + 1) n) (among_from (j + 1) n k (omega (arith, hj)) hk)))

-- ---- supporting triples
pub record IsSupport (points : List (List ℤ)) (t : List ℕ) : Type 0 where
  pub numbers : IsTriple (length points) t
  pub supports : Supports points numbers.i numbers.j numbers.k

pub all_first : (points : List (List ℤ)) (P : List ℕ → Type 0) (ts : List (List ℕ)) → AllByRecursion P ts → AllByRecursion P (first_of_planes points ts)
all_first points P [] h = tt
all_first points P (s ∷ more) h = (h.0, all_filter P P (λ t. not (shares_plane points s t)) (λ t e p. p) (first_of_planes points more) (all_first points P more h.1))

pub support_of : (points : List (List ℤ)) (t : List ℕ) → is_supporting points t ≡ true → IsTriple (length points) t → IsSupport points t
support_of points t e n = record { numbers = n; supports = supports points n.i n.j n.k (subst (λ u. is_supporting points u ≡ true) n.is e) }

pub all_candidates : (points : List (List ℤ)) → AllByRecursion (IsSupport points) (filter (is_supporting points) (triples (length points)))
all_candidates points = all_filter (IsTriple (length points)) (IsSupport points) (is_supporting points) (support_of points) (triples (length points)) (all_triples (length points))

-- each face is a supporting triple
pub all_faces : (points : List (List ℤ)) → AllByRecursion (IsSupport points) (faces_of_hull points)
all_faces points = all_first points (IsSupport points) (filter (is_supporting points) (triples (length points))) (all_candidates points)

itself : (points : List (List ℤ)) (t : List ℕ) → IsSupport points t → shares_plane points t t ≡ true
itself points t s =
    let n = s.numbers in
    subst (λ u. shares_plane points u u ≡ true) (sym n.is) (shares points (triple n.i n.j n.k) n.i n.j n.k (own points n.i n.j n.k))

-- triples with planes equal to one plane have equal planes
pub through_both : (points : List (List ℤ)) (r s t : List ℕ) → IsSupport points s → IsSupport points t → shares_plane points r s ≡ true → shares_plane points s t ≡ true → shares_plane points r t ≡ true
through_both points r s t hs ht first second =
    let a = hs.numbers in
    let b = ht.numbers in
    let one : Holds points (plane_of points r) a.i a.j a.k = shared points r a.i a.j a.k (subst (λ u. shares_plane points r u ≡ true) a.is first) in
    let two : Holds points (plane points a.i a.j a.k) b.i b.j b.k = shared points (triple a.i a.j a.k) b.i b.j b.k (subst (λ u. shares_plane points (triple a.i a.j a.k) u ≡ true) b.is (subst (λ u. shares_plane points u t ≡ true) a.is second)) in
    let also : (p : Coordinates) → value (plane points a.i a.j a.k) p ≡ pos 0 → value (plane_of points r) p ≡ pos 0 = same_zeros points a.i a.j a.k hs.supports.apart (plane_of points r) (plane points a.i a.j a.k) one (own points a.i a.j a.k) (not_nowhere points a.i a.j a.k hs.supports.apart) in
    subst (λ u. shares_plane points r u ≡ true) (sym b.is) (shares points r b.i b.j b.k (record { first = also (mesh_point points b.i) two.first; second = also (mesh_point points b.j) two.second; third = also (mesh_point points b.k) two.third }))

-- a triple whose plane is another one's
pub record HasFirst (points : List (List ℤ)) (ts : List (List ℕ)) (t : List ℕ) : Type 0 where
  pub first : List ℕ
  pub among : IsAmong first ts
  pub same : shares_plane points first t ≡ true

kept_or_first : (points : List (List ℤ)) (s : List ℕ) (more : List (List ℕ)) (t : List ℕ) → AllByRecursion (IsSupport points) (first_of_planes points more) → IsSupport points t → HasFirst points (first_of_planes points more) t → HasFirst points (first_of_planes points (s ∷ more)) t
kept_or_first points s more t all ht f = elim (cases_Bool (shares_plane points s f.first)) [
  | inl e ↦ record { first = s; among = inl refl; same = through_both points s f.first t (member (IsSupport points) f.first (first_of_planes points more) all f.among) ht e f.same }
  | inr e ↦ record { first = f.first; among = inr (among_filter (λ u. not (shares_plane points s u)) f.first (first_of_planes points more) (not_from_false (shares_plane points s f.first) e) f.among); same = f.same }
]

has_first : (points : List (List ℤ)) (ts : List (List ℕ)) (t : List ℕ) → AllByRecursion (IsSupport points) ts → IsAmong t ts → HasFirst points (first_of_planes points ts) t
has_first points [] t all m = absurd m
has_first points (s ∷ more) t all m = elim m [
  | inl e ↦ record { first = s; among = inl refl; same = subst (λ u. shares_plane points s u ≡ true) (sym e) (itself points s all.0) }
  | inr n ↦ kept_or_first points s more t (all_first points (IsSupport points) more all.1) (member (IsSupport points) t more all.1 n) (has_first points more t all.1 n)
]

-- each supporting triple has its plane among the faces
pub has_face : (points : List (List ℤ)) (i j k : ℕ) → i < j → j < k → k < length points → is_supporting points (triple i j k) ≡ true → HasFirst points (faces_of_hull points) (triple i j k)
has_face points i j k hi hj hk e =
    has_first points (filter (is_supporting points) (triples (length points))) (triple i j k) (all_candidates points) (among_filter (is_supporting points) (triple i j k) (triples (length points)) e (among_triples (length points) i j k hi hj hk))
