-- Edges whose ends are strictly inside the world box stay inside it.
use Rattle.std.proofs.Common.{◌≡◌, ◌⊎◌, inl, inr, ℕ, zero, suc, ℤ, pos, ◌+ℤ◌, ◌-ℤ◌, ◌*ℤ◌, ◌<ℤ◌, List, [], ◌∷◌, map, flat_map, Bool, true, false, ◌&&◌, refl, sym, ap, ◌∙◌, subst, arith, count_by, All, slice_index_or}
use Rattle.plane_predicate.specs.declared.unit.Unit.{Unit as LengthUnit}
use Rattle.plane_predicate.specs.declared.unit.Unit.TheVariants.{Whole, Half}
use Rattle.plane_predicate.specs.Space.{Coefficients, Coordinates, value, IsInWorld}
use Rattle.plane_predicate.specs.Units.{grid_steps_per_unit}
use Rattle.plane_predicate.specs.InUnits.{in_steps}
use Rattle.plane_predicate.proofs.lemmas.IntegerRing.{mul_assoc_ℤ, sums}
use Rattle.bsp_tree.specs.Cells.{world_box, AllBehind, IsInCell}
use Rattle.bsp_tree.proofs.lemmas.Worlds.{open_world}
use Rattle.closed_surface.specs.Ways.{Direction, displacement, is_same_direction, is_opposite_direction}
use Rattle.closed_surface.specs.Closed.{Edge, count_of_edges_along, count_of_edges_against, edges_of, runs_through, corners_at, is_corner, IsClosedSurface}
use Rattle.closed_surface.proofs.lemmas.Numbers.{at_most}
use Rattle.closed_surface.proofs.lemmas.EdgeLines.{runs_behind}
use Rattle.closed_surface.proofs.lemmas.Each.{Each, each_from_all}
use Rattle.watertight.specs.Everywhere.{IsClosedAtEveryPoint}
use Rattle.watertight.proofs.Lists.{HaveBoth, edges_have}

-- the plane that says of a point in units what m says of it in grid steps
abbrev plane_in_units : LengthUnit → Coefficients → Coefficients
plane_in_units unit m = record { a = m.a *ℤ grid_steps_per_unit unit; b = m.b *ℤ grid_steps_per_unit unit; c = m.c *ℤ grid_steps_per_unit unit; d = m.d }

value_in_units : (unit : LengthUnit) (m : Coefficients) (p : Coordinates) → value (plane_in_units unit m) p ≡ value m (in_steps unit p)
value_in_units unit m p = λ i. mul_assoc_ℤ m.a (grid_steps_per_unit unit) p.x i +ℤ mul_assoc_ℤ m.b (grid_steps_per_unit unit) p.y i +ℤ mul_assoc_ℤ m.c (grid_steps_per_unit unit) p.z i -ℤ m.d *ℤ p.w

-- a point between two points that are behind some planes is behind them
behind_all : (unit : LengthUnit) (a b q : Coordinates) → pos 0 <ℤ a.w → pos 0 <ℤ b.w → pos 0 <ℤ q.w → runs_through (a, b) q ≡ true →
    (cell : List Coefficients) → AllBehind cell (in_steps unit a) → AllBehind cell (in_steps unit b) → AllBehind cell (in_steps unit q)
behind_all unit a b q wa wb wq runs [] ha hb = tt
behind_all unit a b q wa wb wq runs (m ∷ cell) ha hb =
    let behind : (p : Coordinates) → value m (in_steps unit p) <ℤ pos 0 → value (plane_in_units unit m) p <ℤ pos 0 =
    λ p h. subst (λ (x : ℤ). x <ℤ pos 0) (sym (value_in_units unit m p)) h in (
      subst (λ (x : ℤ). x <ℤ pos 0) (value_in_units unit m q)
          (runs_behind (plane_in_units unit m) a b q wa wb wq runs (at_most _ (behind a ha.0)) (at_most _ (behind b hb.0)) (inl (behind a ha.0))),
      behind_all unit a b q wa wb wq runs cell ha.1 hb.1,
    )

in_world : (unit : LengthUnit) (a b q : Coordinates) → IsInWorld (in_steps unit a) → IsInWorld (in_steps unit b) → pos 0 <ℤ q.w →
    runs_through (a, b) q ≡ true → IsInWorld (in_steps unit q)
in_world unit a b q ha hb wq runs =
    let ia = (open_world (in_steps unit a)).1 ha in let ib = (open_world (in_steps unit b)).1 hb in
    (open_world (in_steps unit q)).0 (record { weight = wq; below = behind_all unit a b q ha.weight hb.weight wq runs world_box ia.below ib.below })

-- both ends of an edge are strictly inside the box
abbrev IsBoxed : LengthUnit → Edge → Type 0
IsBoxed unit e = HaveBoth (λ p. IsInWorld (in_steps unit p)) e

-- ---- the corners of faces with such vertices
origin_boxed : (unit : LengthUnit) → IsInWorld (in_steps unit (record { x = pos 0; y = pos 0; z = pos 0; w = pos 1 }))
origin_boxed Whole = record { weight = omega arith; x_size = omega arith; y_size = omega arith; z_size = omega arith }
origin_boxed Half = record { weight = omega arith; x_size = omega arith; y_size = omega arith; z_size = omega arith }

pub corner_boxed : (unit : LengthUnit) (vertices : List Coordinates) → Each (λ p. IsInWorld (in_steps unit p)) vertices → (i : ℕ) →
    IsInWorld (in_steps unit (slice_index_or vertices i (record { x = pos 0; y = pos 0; z = pos 0; w = pos 1 })))
corner_boxed unit [] h i = origin_boxed unit
corner_boxed unit (p ∷ vertices) h zero = h.0
corner_boxed unit (p ∷ vertices) h (suc i) = corner_boxed unit vertices h.1 i

corners_boxed : (unit : LengthUnit) (vertices : List Coordinates) → Each (λ p. IsInWorld (in_steps unit p)) vertices → (face : List ℕ) →
    Each (λ p. IsInWorld (in_steps unit p)) (corners_at vertices face)
corners_boxed unit vertices h [] = tt
corners_boxed unit vertices h (i ∷ face) = (corner_boxed unit vertices h i, corners_boxed unit vertices h face)

pub faces_boxed : (unit : LengthUnit) (vertices : List Coordinates) → Each (λ p. IsInWorld (in_steps unit p)) vertices → (faces : List (List ℕ)) →
    Each (λ corners. Each (λ p. IsInWorld (in_steps unit p)) corners) (map (corners_at vertices) faces)
faces_boxed unit vertices h [] = tt
faces_boxed unit vertices h (face ∷ faces) = (corners_boxed unit vertices h face, faces_boxed unit vertices h faces)

-- ---- a point is inside the box, or no edge runs through it
none_counted : (t : Edge → Bool) (q : Coordinates) (e : Edge) (edges : List Edge) → runs_through e q ≡ false →
    count_by (λ x. runs_through x q && t x) (e ∷ edges) ≡ count_by (λ x. runs_through x q && t x) edges
none_counted t q e edges h = rw h refl

first_runs : (unit : LengthUnit) (q : Coordinates) → pos 0 <ℤ q.w → (e : Edge) (edges : List Edge) → IsBoxed unit e → (b : Bool) → runs_through e q ≡ b →
    ((t : Edge → Bool) → count_by (λ x. runs_through x q && t x) edges ≡ 0) →
    IsInWorld (in_steps unit q) ⊎ ((t : Edge → Bool) → count_by (λ x. runs_through x q && t x) (e ∷ edges) ≡ 0)
first_runs unit q wq e edges h true runs none = inl (in_world unit e.0 e.1 q h.0 h.1 wq runs)
first_runs unit q wq e edges h false runs none = inr (λ t. none_counted t q e edges runs ∙ none t)

in_or_none : (unit : LengthUnit) (q : Coordinates) → pos 0 <ℤ q.w → (edges : List Edge) → Each (IsBoxed unit) edges →
    IsInWorld (in_steps unit q) ⊎ ((t : Edge → Bool) → count_by (λ x. runs_through x q && t x) edges ≡ 0)
in_or_none unit q wq [] h = inr (λ t. refl)
in_or_none unit q wq (e ∷ edges) h = elim (in_or_none unit q wq edges h.1) [
  | inl world ↦ inl world
  | inr none ↦ first_runs unit q wq e edges h.0 (runs_through e q) refl none
]

pub closed_everywhere : (unit : LengthUnit) (vertices : List Coordinates) (faces : List (List ℕ)) →
    All (λ (p : Coordinates). IsInWorld (in_steps unit p)) vertices → IsClosedSurface unit vertices faces → IsClosedAtEveryPoint vertices faces
closed_everywhere unit vertices faces inside closed q v wq free =
    elim (in_or_none unit q wq (flat_map edges_of (map (corners_at vertices) faces))
    (edges_have (λ p. IsInWorld (in_steps unit p)) (map (corners_at vertices) faces)
    (faces_boxed unit vertices (each_from_all (λ p. IsInWorld (in_steps unit p)) vertices inside) faces))) [
      | inl world ↦ closed q v world free
      | inr none ↦ none (λ e. is_same_direction (displacement e.0 e.1) v) ∙ sym (none (λ e. is_opposite_direction (displacement e.0 e.1) v))
    ]
