-- What the class of a polygon against a plane says of its corners and points.
use Rattle.std.proofs.Common.{◌≡◌, ◌⊎◌, inl, inr, ℕ, zero, suc, ◌<◌, ◌≤◌, Bool, true, false, ◌||◌, List, [], ◌∷◌, ◌++◌, map, refl, sym, ap, ◌∙◌, arith, ℤ, pos, neg_ℤ, ◌<ℤ◌, ◌≤ℤ◌, int_lt, true≢false}
use Rattle.std.proofs.lemmas.List.{map-append}
use Rattle.std.proofs.lemmas.Int.{ints}
use Rattle.plane_predicate.specs.Space.{Coefficients, Coordinates, value, opposite_of}
use Rattle.plane_predicate.proofs.lemmas.Vectors.{value-opposite}
use Rattle.plane_polygon.specs.Polygons.{Outline, edge_count, corner}
use Rattle.plane_polygon.specs.declared.classes.Class.TheVariants.{Behind, Ahead, On, Across}
use Rattle.plane_polygon.specs.Parts.{class_by_sides, class_of, is_behind, is_ahead, some_of, corners}
use Rattle.plane_polygon.proofs.lemmas.Hull.{hull}
use Rattle.plane_polygon.proofs.lemmas.PartPoints.{some_index}
use Rattle.plane_polygon.proofs.lemmas.PartCovers.{between_within}
use Rattle.bsp_tree.specs.Cells.{IsInClosedCell, IsPolygonOfCell}
use Rattle.plane_predicate.specs.Indices.{indices_below}

-- ---- where no item passes a test
or_left : (x y : Bool) → (x || y) ≡ false → (x ≡ false) × (y ≡ false)
or_left true y h = absurd (true≢false h)
or_left false y h = (refl, h)

none_case : {P : Type 0} (x r s y : Bool) → (x || r) ≡ false → (r ≡ false → (s ≡ false) × P) →
    ((x || s) ≡ false) × P
none_case true r s y h f = absurd (true≢false h)
none_case false r s y h f = f h

at_most_now : (m n : ℕ) → m ≤ n → (m ≡ n) ⊎ (m < n)
at_most_now m n h = grind arith

none_append : {A : Type 0} (f : A → Bool) (xs : List A) (y : A) → some_of f (xs ++ y ∷ []) ≡ false →
    (some_of f xs ≡ false) × (f y ≡ false)
none_append f [] y h = (refl, (or_left (f y) false h).0)
none_append f (x ∷ xs) y h = none_case (f x) (some_of f (xs ++ y ∷ [])) (some_of f xs) (f y) h
    (none_append f xs y)

none_index : (f : Coordinates → Bool) (g : ℕ → Coordinates) (n : ℕ) → some_of f (map g (indices_below n)) ≡ false →
    (i : ℕ) → i < n → f (g i) ≡ false
none_index f g zero h i l = absurd (omega arith)
none_index f g (suc n) h i l =
    let r = none_append f (map g (indices_below n)) (g n) (ap (some_of f) (sym (map-append g (indices_below n) (n ∷ []))) ∙
    h) in
    elim (at_most_now i n (omega arith)) [
      | inl e ↦ ap (λ (k : ℕ). f (g k)) e ∙ r.1
      | inr b ↦ none_index f g n
          r.0 i b
    ]

-- ---- the tests by their signs
negative_now : (x : ℤ) → int_lt x (pos 0) ≡ true → x <ℤ pos 0
negative_now x h = omega (arith, ints)

most_now : (x : ℤ) → int_lt (pos 0) x ≡ false → x ≤ℤ pos 0
most_now x h = omega (arith, ints)

zero_now : (x : ℤ) → int_lt x (pos 0) ≡ false → int_lt (pos 0) x ≡ false → x ≡ pos 0
zero_now x h k = omega (arith, ints)

turned_negative : (x y : ℤ) → y ≡ neg_ℤ x → int_lt (pos 0) x ≡ true → y <ℤ pos 0
turned_negative x y e h = omega (arith, ints)

turned_most : (x y : ℤ) → y ≡ neg_ℤ x → int_lt x (pos 0) ≡ false → y ≤ℤ pos 0
turned_most x y e h = omega (arith, ints)

-- ---- the classes
of_behind : (x y : Bool) → class_by_sides x y ≡ Behind → (x ≡ true) × (y ≡ false)
of_behind true true e = cc
of_behind true false e = (refl, refl)
of_behind false true e = cc
of_behind false false e = cc

of_ahead : (x y : Bool) → class_by_sides x y ≡ Ahead → (x ≡ false) × (y ≡ true)
of_ahead true true e = cc
of_ahead true false e = cc
of_ahead false true e = (refl, refl)
of_ahead false false e = cc

of_on : (x y : Bool) → class_by_sides x y ≡ On → (x ≡ false) × (y ≡ false)
of_on true true e = cc
of_on true false e = cc
of_on false true e = cc
of_on false false e = (refl, refl)

of_across : (x y : Bool) → class_by_sides x y ≡ Across → (x ≡ true) × (y ≡ true)
of_across true true e = (refl, refl)
of_across true false e = cc
of_across false true e = cc
of_across false false e = cc

-- a corner strictly behind q
pub record HasBehind (s : Outline) (q : Coefficients) : Type 0 where
  pub index : ℕ
  pub index_below : index < edge_count s
  pub strict : value q (corner s index) <ℤ pos 0

-- and no corner ahead of it
pub record LiesBehind (s : Outline) (q : Coefficients) : Type 0 where
  pub some : HasBehind s q
  pub all : (j : ℕ) → j < edge_count s → value q (corner s j) ≤ℤ pos 0

found_behind : (s : Outline) (q : Coefficients) → some_of (is_behind q) (corners s) ≡ true → HasBehind s q
found_behind s q e =
    let i = some_index (is_behind q) (corner s) (edge_count s) e in
    record { index = i.0; index_below = i.1; strict = negative_now (value q (corner s i.0)) i.2 }

found_ahead : (s : Outline) (q : Coefficients) → some_of (is_ahead q) (corners s) ≡ true →
    HasBehind s (opposite_of q)
found_ahead s q e =
    let i = some_index (is_ahead q) (corner s) (edge_count s) e in
    record {
      index = i.0;
      index_below = i.1;
      strict = turned_negative (value q (corner s i.0))
          (value (opposite_of q) (corner s i.0)) (value-opposite q (corner s i.0)) i.2;
    }

pub lies_behind : (s : Outline) (q : Coefficients) → class_of s q ≡ Behind → LiesBehind s q
lies_behind s q e =
    let b = of_behind (some_of (is_behind q) (corners s)) (some_of (is_ahead q) (corners s)) e in record {
      some = found_behind s q b.0;
      all = λ j l. most_now (value q (corner s j)) (none_index (is_ahead q) (corner s) (edge_count s) b.1 j l);
    }

pub lies_ahead : (s : Outline) (q : Coefficients) → class_of s q ≡ Ahead → LiesBehind s (opposite_of q)
lies_ahead s q e =
    let b = of_ahead (some_of (is_behind q) (corners s)) (some_of (is_ahead q) (corners s)) e in record {
      some = found_ahead s q b.1;
      all = λ j l. turned_most (value q (corner s j)) (value (opposite_of q) (corner s j))
          (value-opposite q (corner s j)) (none_index (is_behind q) (corner s) (edge_count s) b.0 j l);
    }

pub lies_on : (s : Outline) (q : Coefficients) → class_of s q ≡ On → (j : ℕ) → j < edge_count s →
    value q (corner s j) ≡ pos 0
lies_on s q e j l =
    let b = of_on (some_of (is_behind q) (corners s)) (some_of (is_ahead q) (corners s)) e in
    zero_now (value q (corner s j)) (none_index (is_behind q) (corner s) (edge_count s) b.0 j l)
    (none_index (is_ahead q) (corner s) (edge_count s) b.1 j l)

pub lies_across : (s : Outline) (q : Coefficients) → class_of s q ≡ Across → HasBehind s q × HasBehind s
    (opposite_of q)
lies_across s q e =
    let b = of_across (some_of (is_behind q) (corners s)) (some_of (is_ahead q) (corners s)) e in
    (found_behind s q b.0, found_ahead s q b.1)

-- no point of a polygon of the cell is ahead of what its corners aren't ahead of
pub none_ahead : (cell : List Coefficients) (t : Outline) (m : Coefficients) → IsPolygonOfCell cell t →
    LiesBehind t m → (z : Coordinates) → IsInClosedCell cell z → value t.plane z ≡ pos 0 → value m z ≤ℤ pos 0
none_ahead cell t m h b z c e =
    let o = hull t h.polygon z ((h.covers z).1 (c, e)) in
    between_within (corner t 0) (corner t o.0) (corner t (suc o.0)) z m o.2 (b.all 0 (omega (arith, o.1)))
    (b.all o.0 (omega (arith, o.1))) (b.all (suc o.0) o.1)
