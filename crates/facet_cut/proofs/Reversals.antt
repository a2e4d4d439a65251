-- A polygon seen from the other side is a polygon of the opposite plane, with the same points.
use Rattle.std.proofs.Common.{◌≡◌, ◌≢◌, inl, inr, ℕ, ◌-◌, ◌<◌, ◌≤◌, [], refl, sym, ap, ap₂, ◌∙◌, subst, subst₂, arith, pos, ◌-ℤ◌, ◌<ℤ◌, ◌≤ℤ◌}
use Rattle.std.proofs.lemmas.List.{get_or-reverse, length-reverse}
use Rattle.plane_predicate.specs.Space.{Coefficients, Coordinates, value, meeting_by_cramers_rule, opposite_of}
use Rattle.plane_predicate.proofs.lemmas.Polynomials.{num, minus, ring}
use Rattle.plane_predicate.proofs.lemmas.Vectors.{Form, form, of_plane, cramerP}
use Rattle.plane_predicate.proofs.lemmas.Opposites.{from_zero, same_plane, same_point}
use Rattle.plane_polygon.specs.Polygons.{Outline, edge_plane, edge_count, corner, Covers, IsPolygon, IsStrictlyWithin, missing_plane}
use Rattle.plane_polygon.proofs.lemmas.Hull.{after_is, after_below}
use Rattle.bsp_tree.proofs.lemmas.Opposites.{opposite_zero, opposite_back}
use Rattle.facet_cut.specs.Facets.{reversed_outline}
use Rattle.plane_predicate.specs.Indices.{index_after}

-- ---- Cramer's point does not change where the first plane is turned round and the other two are exchanged
abbrev from_nothing : Coefficients → Coefficients
from_nothing n = record { a = pos 0 -ℤ n.a; b = pos 0 -ℤ n.b; c = pos 0 -ℤ n.c; d = pos 0 -ℤ n.d }

abbrev turned_form : Form → Form
turned_form n = record {
  a = minus (num (pos 0)) n.a;
  b = minus (num (pos 0)) n.b;
  c =
      minus (num (pos 0)) n.c;
  d = minus (num (pos 0)) n.d;
}

cramer_from_nothing : (n e f : Coefficients) → meeting_by_cramers_rule (from_nothing n) f e ≡ meeting_by_cramers_rule n e f
cramer_from_nothing n e f =
    let xs = of_plane n (of_plane e (of_plane f [])) in
    let left = cramerP (turned_form (form 0)) (form 8) (form 4) in
    let right = cramerP (form 0) (form 4) (form 8) in
    same_point (meeting_by_cramers_rule (from_nothing n) f e).x (meeting_by_cramers_rule (from_nothing n) f e).y
    (meeting_by_cramers_rule (from_nothing n) f e).z (meeting_by_cramers_rule (from_nothing n) f e).w
    (meeting_by_cramers_rule n e f).x (meeting_by_cramers_rule n e f).y (meeting_by_cramers_rule n e f).z (meeting_by_cramers_rule n e f).w
    (ring xs left.x right.x refl) (ring xs left.y right.y refl) (ring xs left.z right.z refl)
    (ring xs left.w right.w refl)

cramer_turned : (n e f : Coefficients) → meeting_by_cramers_rule (opposite_of n) f e ≡ meeting_by_cramers_rule n e f
cramer_turned n e f =
    let o = opposite_of n in
    ap (λ (m : Coefficients). meeting_by_cramers_rule m f e)
    (sym (same_plane (pos 0 -ℤ n.a) (pos 0 -ℤ n.b) (pos 0 -ℤ n.c) (pos 0 -ℤ n.d) o.a o.b o.c o.d
    (from_zero n.a) (from_zero n.b) (from_zero n.c) (from_zero n.d)))
    ∙ cramer_from_nothing n e f

-- ---- edges and corners from the other side
pub reversed_sides : (s : Outline) → edge_count (reversed_outline s) ≡ edge_count s
reversed_sides s = length-reverse s.edges

reversed_edge : (s : Outline) (i : ℕ) → i < edge_count s → edge_plane (reversed_outline s) i ≡ edge_plane s (edge_count s - 1 - i)
reversed_edge s i h = get_or-reverse s.edges i missing_plane h

-- the corner that corner i is, seen from the other side
abbrev other : ℕ → ℕ → ℕ
other k i = k - 1 - index_after k i

other_after : (k i : ℕ) → i < k → index_after k (other k i) ≡ k - 1 - i
other_after k i h = elim (after_is k i) [
  | inl p ↦ elim (after_is k (other k i)) [ inl q ↦ omega arith | inr q ↦ absurd (omega arith) ]
  | inr p ↦ elim (after_is k (other k i)) [ inl q ↦ absurd (omega arith) | inr q ↦ omega arith ]
]

other_below : (k i : ℕ) → i < k → other k i < k
other_below k i h = omega arith

mirrored : (k i : ℕ) → i < k → k - 1 - i < k
mirrored k i h = omega arith

mirrored_apart : (k i j : ℕ) → i < k → j < k → j ≢ i → k - 1 - j ≢ k - 1 - i
mirrored_apart k i j h l n e = n (omega arith)

reversed_corner : (s : Outline) (i : ℕ) → i < edge_count s → corner (reversed_outline s) i ≡ corner s (other (edge_count s) i)
reversed_corner s i h =
    let k = edge_count s in
    ap (λ (c : ℕ). meeting_by_cramers_rule (opposite_of s.plane) (edge_plane (reversed_outline s) i) (edge_plane (reversed_outline s) (index_after c i)))
    (reversed_sides s)
    ∙ ap₂ (meeting_by_cramers_rule (opposite_of s.plane)) (reversed_edge s i h)
    (reversed_edge s (index_after k i) (after_below k i h))
    ∙ cramer_turned s.plane (edge_plane s (other k i)) (edge_plane s (k - 1 - i))
    ∙ ap (λ (j : ℕ). meeting_by_cramers_rule s.plane (edge_plane s (other k i)) (edge_plane s j)) (sym (other_after k i h))

-- it is a polygon
pub reversed_polygon : (s : Outline) → IsPolygon s → IsPolygon (reversed_outline s)
reversed_polygon s p =
    let k = edge_count s in record {
      three = subst (λ (c : ℕ). 3 ≤ c) (sym (reversed_sides s)) p.three;
      turns_left = λ i l. (let b : i < k = subst (λ (c : ℕ). i < c) (reversed_sides s) l in
          subst (λ (v : Coordinates). pos 0 <ℤ v.w) (sym (reversed_corner s i b))
          (p.turns_left (other k i) (other_below k i b)));
      behind = λ i j l m n o. (
          let b : i < k = subst (λ (c : ℕ). i < c) (reversed_sides s) l in
          let c : j < k = subst (λ (d : ℕ). j < d) (reversed_sides s) m in
          let q : j ≢ index_after k i = subst (λ (d : ℕ). j ≢ index_after d i) (reversed_sides s) o in
          subst₂ (λ (e : Coefficients) (v : Coordinates). value e v <ℤ pos 0) (sym (reversed_edge s j c))
          (sym (reversed_corner s i b))
          (p.behind (other k i) (k - 1 - j) (other_below k i b) (mirrored k j c)
          (mirrored_apart k (index_after k i) j (after_below k i b) c q)
          (λ w. mirrored_apart k i j b c n (w ∙ other_after k i b))));
    }

-- ---- points
mirrored_twice : (k j : ℕ) → j < k → k - 1 - (k - 1 - j) ≡ j
mirrored_twice k j h = omega arith

-- what holds of a polygon's edges holds of the other side's
edges_over : (s : Outline) (P : Coefficients → Type 0) → ((j : ℕ) → j < edge_count s → P (edge_plane s j)) → (j : ℕ) →
    j < edge_count (reversed_outline s) → P (edge_plane (reversed_outline s) j)
edges_over s P h j l =
    let b : j < edge_count s = subst (λ (c : ℕ). j < c) (reversed_sides s) l in
    subst P (sym (reversed_edge s j b)) (h (edge_count s - 1 - j) (mirrored (edge_count s) j b))

-- what is strictly within a polygon is so from the other side
pub within_reversed : (s : Outline) (p : Coordinates) → IsStrictlyWithin s p → IsStrictlyWithin (reversed_outline s) p
within_reversed s p h = record {
  on = opposite_zero s.plane p h.on;
  behind =
      edges_over s (λ (e : Coefficients). value e p <ℤ pos 0) h.behind;
}

-- what holds of the other side's edges holds of the polygon's
edges_back : (s : Outline) (P : Coefficients → Type 0) →
    ((j : ℕ) → j < edge_count (reversed_outline s) → P (edge_plane (reversed_outline s) j)) → (j : ℕ) → j < edge_count s → P (edge_plane s j)
edges_back s P h j l =
    let i = edge_count s - 1 - j in
    let b = mirrored (edge_count s) j l in
    subst (λ (k : ℕ). P (edge_plane s k)) (mirrored_twice (edge_count s) j l)
    (subst P (reversed_edge s i b) (h i (subst (λ (c : ℕ). i < c) (sym (reversed_sides s)) b)))

pub within_back : (s : Outline) (p : Coordinates) → IsStrictlyWithin (reversed_outline s) p → IsStrictlyWithin s p
within_back s p h = record {
  on = opposite_back s.plane p h.on;
  behind =
      edges_back s (λ (e : Coefficients). value e p <ℤ pos 0) h.behind;
}

-- its points are the polygon's
pub covers_back : (s : Outline) (p : Coordinates) → Covers (reversed_outline s) p → Covers s p
covers_back s p h = record {
  weight = h.weight;
  on = opposite_back s.plane p h.on;
  within =
      edges_back s (λ (e : Coefficients). value e p ≤ℤ pos 0) h.within;
}

pub covers_reversed : (s : Outline) (p : Coordinates) → Covers s p → Covers (reversed_outline s) p
covers_reversed s p h = record {
  weight = h.weight;
  on = opposite_zero s.plane p h.on;
  within =
      edges_over s (λ (e : Coefficients). value e p ≤ℤ pos 0) h.within;
}
