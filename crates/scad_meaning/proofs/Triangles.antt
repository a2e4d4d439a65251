-- Points in range, and corners that are not on one line.
use Rattle.std.proofs.Common.{ℕ, ◌<◌, ℤ, pos, unsigned_abs, List, length, get_or}
use Rattle.plane_predicate.specs.Space.{Coordinates, plane_of_points, AreCollinear}
use Rattle.primitives.specs.Shapes.{mesh_point, HasTriangle, IsPointInRange}
use Rattle.scad_design.proofs.lemmas.Deciding.{Decided, decided_by, decided_both, decided_not, decided_at_most, decided_same_ℤ, decided_some_below}

pub decided_point_range : (p : Coordinates) → Decided (IsPointInRange p)
decided_point_range p =
    decided_by (λ h. record { x_size = h.0; y_size = h.1.0; z_size = h.1.1 }) (λ h. (h.x_size, (h.y_size, h.z_size)))
    (decided_both (decided_at_most (unsigned_abs p.x) 65535)
    (decided_both (decided_at_most (unsigned_abs p.y) 65535) (decided_at_most (unsigned_abs p.z) 65535)))

-- whether three points are on one line, and whether a face has three corners that are not
decided_collinear : (p q r : Coordinates) → Decided (AreCollinear p q r)
decided_collinear p q r =
    decided_by (λ h. record { a = h.0; b = h.1.0; c = h.1.1 }) (λ h. (h.a, (h.b, h.c)))
    (decided_both (decided_same_ℤ (plane_of_points p q r).a (pos 0))
    (decided_both (decided_same_ℤ (plane_of_points p q r).b (pos 0)) (decided_same_ℤ (plane_of_points p q r).c (pos 0))))

abbrev pub at_place : List (List ℤ) → List ℕ → ℕ → Coordinates
at_place points face i = mesh_point points (get_or face i 0)

abbrev SomeTriangle : List (List ℤ) → List ℕ → Type 0
SomeTriangle points face = (i : ℕ) × (i < length face) × ((j : ℕ) × (j < length face) × ((k : ℕ) × (k < length face)
    × (AreCollinear (at_place points face i) (at_place points face j) (at_place points face k) → ⊥)))

pub decided_triangle : (points : List (List ℤ)) (face : List ℕ) → Decided (HasTriangle points face)
decided_triangle points face =
    decided_by {P = SomeTriangle points face}
    (λ h. record { first = h.0; second = h.2.0; third = h.2.2.0; first_in = h.1; second_in = h.2.1; third_in = h.2.2.1; apart = h.2.2.2 })
    (λ h. (h.first, h.first_in, (h.second, h.second_in, (h.third, h.third_in, h.apart))))
    (decided_some_below (length face) (λ i. (j : ℕ) × (j < length face) × ((k : ℕ) × (k < length face) × (AreCollinear (at_place points face i) (at_place points face j) (at_place points face k) → ⊥)))
    (λ i h. decided_some_below (length face) (λ j. (k : ℕ) × (k < length face) × (AreCollinear (at_place points face i) (at_place points face j) (at_place points face k) → ⊥))
    (λ j h. decided_some_below (length face) (λ k. AreCollinear (at_place points face i) (at_place points face j) (at_place points face k) → ⊥)
    (λ k h. decided_not (decided_collinear (at_place points face i) (at_place points face j) (at_place points face k))))))
